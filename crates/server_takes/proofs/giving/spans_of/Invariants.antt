use Rattle.std.proofs.Common.{◌≡◌, ◌≤◌, ◌+◌, ◌++◌, drop, length, map}
use Rattle.base_types.specs.declared.limits.TheConstants.{FILE_BYTES_MAX}
use Rattle.message_types.specs.Soundness.{Each}
use Rattle.run_rules.specs.ServerDecides.{span_of}
use Rattle.tree_calls.specs.declared.part.Piece.{Piece}
use Rattle.server_takes.proofs.giving.spans_of.Given as goal

abbrev pub invariant-loop-piece : goal.invariant-loop-piece
invariant-loop-piece l = record {
  rest : Each (λ (piece : Piece). piece.from + length piece.bytes ≤ FILE_BYTES_MAX) (drop l.piece-index l.piece-items);
  so_far : l.spans ++ map span_of (drop l.piece-index l.piece-items) ≡ map span_of l.piece-items;
}
