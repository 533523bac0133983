use Rattle.std.proofs.Common.{◌≡◌, ◌++◌, drop}
use Rattle.store_memory.specs.Reading.{slots_from}
use Rattle.store_memory.proofs.reading.slots_told.Given as goal

-- those so far and those that are left
abbrev pub invariant-loop-at : goal.invariant-loop-at
invariant-loop-at l = l.slots ++ slots_from l.at (drop l.at l.slot-items) ≡ slots_from 0 l.state.slots
