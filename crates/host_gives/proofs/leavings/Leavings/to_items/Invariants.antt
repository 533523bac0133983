use Rattle.std.proofs.Common.{◌≡◌, ◌++◌, length}
use Rattle.host_gives.specs.Leavings.{leaving_in}
use Rattle.host_gives.proofs.leavings.Leavings.to_items.Given as goal

-- those so far, and those that are left, are all
abbrev pub invariant-loop-key : goal.invariant-loop-key
invariant-loop-key l = l.all ++ leaving_in l.gives ≡ l.self

abbrev pub decreases-loop-key : goal.decreases-loop-key
decreases-loop-key l = length l.gives
