use Rattle.std.proofs.Common.{◌≡◌, take}
use Rattle.host_leaves.specs.Dirtying.{spans_within}
use Rattle.host_leaves.proofs.dirtying.spans_within.Given as goal

abbrev pub invariant-loop-span : goal.invariant-loop-span
invariant-loop-span l = l.out ≡ spans_within (take l.span-index l.spans) l.others
