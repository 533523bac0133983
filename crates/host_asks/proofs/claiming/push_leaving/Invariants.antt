use Rattle.std.proofs.Common.{◌≡◌, ◌++◌, map, take}
use Rattle.host_gives.specs.declared.leavings.Leaving.{Leaving}
use Rattle.host_asks.proofs.claiming.push_leaving.Given as goal

abbrev pub invariant-loop-left : goal.invariant-loop-left
invariant-loop-left l =
    l.tokens ≡ l.initial.tokens ++ map (λ (left : Leaving). left.token) (take l.left-index l.leaving)
