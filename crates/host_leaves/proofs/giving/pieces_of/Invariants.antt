use Rattle.std.proofs.Common.{◌≡◌, map, take}
use Rattle.host_leaves.specs.Giving.{piece_at}
use Rattle.host_leaves.proofs.giving.pieces_of.Given as goal

abbrev pub invariant-loop-span : goal.invariant-loop-span
invariant-loop-span l = l.pieces ≡ map (piece_at l.tables l.fid) (take l.span-index l.spans)
