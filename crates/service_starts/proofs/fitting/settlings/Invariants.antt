use Rattle.std.proofs.Common.{◌≡◌, ◌+◌, ◌++◌, drop}
use Rattle.service_starts.specs.Told.{placed_from}
use Rattle.service_starts.specs.Fitting.{settlings_in, settlings_of}
use Rattle.service_starts.proofs.fitting.settlings.Given as goal

-- those so far and those that are left
abbrev pub invariant-loop-place : goal.invariant-loop-place
invariant-loop-place l = l.settlings ++ settlings_in l.all (placed_from (l.place + 1) (drop l.place l.all)) ≡ settlings_of l.all
