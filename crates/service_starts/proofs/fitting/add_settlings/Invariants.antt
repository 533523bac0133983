use Rattle.std.proofs.Common.{◌≡◌, ◌++◌, drop}
use Rattle.service_starts.specs.Told.{placed_at}
use Rattle.service_starts.specs.Fitting.{settlings_in}
use Rattle.service_starts.proofs.fitting.add_settlings.Given as goal

-- those so far and those that are left
abbrev pub invariant-loop-slot : goal.invariant-loop-slot
invariant-loop-slot l =
    l.settlings ++ settlings_in l.all (placed_at l.server.0 (drop l.slot-index l.slots))
    ≡ l.fn.settlings ++ settlings_in l.all (placed_at l.server.0 l.slots)
