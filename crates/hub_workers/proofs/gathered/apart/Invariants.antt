use Rattle.std.proofs.Common.{◌≡◌, map}
use Rattle.hub_workers.proofs.gathered.apart.Given as goal

abbrev pub invariant-loop-each : goal.invariant-loop-each
invariant-loop-each l = (l.passes.items ≡ map (λ d. d.pass) l.yielded) × (l.counts.items ≡ map (λ d. d.count) l.yielded)
