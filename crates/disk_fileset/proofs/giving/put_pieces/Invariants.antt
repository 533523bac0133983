use Rattle.std.proofs.Common.{◌≡◌, drop}
use Rattle.store_state.specs.Giving.{put_pieces}
use Rattle.disk_fileset.specs.Giving.{shifted}
use Rattle.disk_fileset.proofs.giving.put_pieces.Given as goal

-- the pieces that are left, over what was put so far
abbrev pub invariant-loop-piece : goal.invariant-loop-piece
invariant-loop-piece l = put_pieces l.bytes (shifted l.from (drop l.piece-index l.pieces)) ≡ put_pieces l.fn.bytes (shifted l.from l.pieces)
