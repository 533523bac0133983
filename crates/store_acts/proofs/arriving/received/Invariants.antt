use Rattle.std.proofs.Common.{◌≡◌, ◌++◌, drop, map}
use Rattle.store_acts.specs.Moving.{received as received_one}
use Rattle.store_acts.proofs.arriving.received.Given as goal

-- those so far, and those that are left
abbrev pub invariant-loop-kept : goal.invariant-loop-kept
invariant-loop-kept l = l.copies ++ map received_one (drop l.kept-index l.kept-items) ≡ map received_one l.records
