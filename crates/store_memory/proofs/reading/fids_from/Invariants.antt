use Rattle.std.proofs.Common.{◌≡◌, ◌+◌, ◌++◌, drop}
use Rattle.store_memory.specs.Reading.{fids_from}
use Rattle.store_memory.proofs.reading.fids_from.Given as goal

-- those so far and those that are left
abbrev pub invariant-loop-place : goal.invariant-loop-place
invariant-loop-place l = l.fids ++ fids_from l.id (l.place + 1) (drop l.place l.anodes) ≡ fids_from l.id 1 l.anodes
