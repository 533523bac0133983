use Rattle.std.proofs.Common.{◌≡◌, ◌++◌, take}
use Rattle.host_leaves.specs.Dirtying.{within}
use Rattle.host_leaves.proofs.dirtying.push_within.Given as goal

abbrev pub invariant-loop-other : goal.invariant-loop-other
invariant-loop-other l = l.out ≡ l.initial.out ++ within l.span (take l.other-index l.others)
