use Rattle.std.proofs.Common.{◌≡◌, ◌++◌, drop}
use Rattle.store_memory.specs.Reading.{filesets_kept}
use Rattle.store_memory.proofs.reading.filesets_kept.Given as goal

-- those so far and those that are left
abbrev pub invariant-loop-slot : goal.invariant-loop-slot
invariant-loop-slot l = l.filesets ++ filesets_kept (drop l.slot-index l.slot-items) ≡ filesets_kept l.slots
