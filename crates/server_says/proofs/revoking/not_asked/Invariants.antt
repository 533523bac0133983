use Rattle.std.proofs.Common.{◌≡◌, ◌++◌, drop}
use Rattle.server_says.specs.Revoking.{not_asked}
use Rattle.server_says.proofs.revoking.not_asked.Given as goal

abbrev pub invariant-loop-one : goal.invariant-loop-one
invariant-loop-one l = l.tokens ++ not_asked (drop l.one-index l.wanted) ≡ not_asked l.wanted
