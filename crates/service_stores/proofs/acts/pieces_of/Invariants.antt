use Rattle.std.proofs.Common.{◌≡◌, map, take}
use Rattle.service_stores.proofs.Pieces.{read_of}
use Rattle.service_stores.proofs.acts.pieces_of.Given as goal

-- what is read of the spans so far
abbrev pub invariant-loop-span : goal.invariant-loop-span
invariant-loop-span l = l.pieces ≡ map (read_of l.object.content) (take l.span-index l.spans)
