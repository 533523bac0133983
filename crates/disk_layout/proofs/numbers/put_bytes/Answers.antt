use Rattle.std.proofs.Common.{List, ℕ, length, subst, sym, arith}
use Rattle.base_types.specs.Image.{Torn, Holds}
use Rattle.disk_layout.proofs.Bytes.{piece_is, piece_torn, piece_held}
use Rattle.disk_layout.proofs.numbers.put_bytes.Goals as goal

pub returns-clause-piece : goal.returns-clause-piece
returns-clause-piece c =
    subst (λ (new : List ℕ). Holds c.args.at c.args.piece.now new) (sym (piece_is c.args.at c.args.piece.now c.args.bytes.now c.requires _ _ (omega arith) c.copy_from_slice.ensures.after))
    (piece_held c.args.at c.args.piece.now c.args.bytes.now c.requires)

pub returns-clause-rest : goal.returns-clause-rest
returns-clause-rest c =
    subst (λ (new : List ℕ). Torn c.args.at (length c.args.piece.now) c.args.bytes.now new) (sym (piece_is c.args.at c.args.piece.now c.args.bytes.now c.requires _ _ (omega arith) c.copy_from_slice.ensures.after))
    (piece_torn c.args.at c.args.piece.now c.args.bytes.now c.requires)
