use Rattle.std.proofs.Common.{◌≡◌}
use Rattle.tree_answers.proofs.Mapped.{mapped_first}
use Rattle.service_starts.specs.UnderWay.{free}
use Rattle.service_stores.proofs.tree.free_rooms.Given as goal

-- those so far keep no more room
abbrev pub invariant-loop-place : goal.invariant-loop-place
invariant-loop-place l = l.records ≡ mapped_first free l.place l.fn.records
