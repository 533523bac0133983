use Rattle.std.proofs.Common.{◌≡◌, ◌+◌, drop, not}
use Rattle.std.specs.List.{find}
use Rattle.service_starts.specs.Told.{placed_from}
use Rattle.service_starts.specs.Fitting.{fits, misfit}
use Rattle.service_starts.proofs.fitting.check.Given as goal

-- the first one is among those that are left
abbrev pub invariant-loop-place : goal.invariant-loop-place
invariant-loop-place l = find (λ at. not (fits l.all at)) (placed_from (l.place + 1) (drop l.place l.all)) ≡ misfit l.all
