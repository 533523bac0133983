use Rattle.std.proofs.Common.{[], fold, take, ◌≡◌}
use Rattle.host_leaves.proofs.Slots.{with_slot}
use Rattle.host_leaves.proofs.sending.given_filesets.Given as goal

abbrev pub invariant-loop-slot : goal.invariant-loop-slot
invariant-loop-slot l = l.filesets ≡ fold with_slot [] (take l.slot-index l.slots)
