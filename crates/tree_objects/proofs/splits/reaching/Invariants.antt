use Rattle.std.proofs.Common.{◌≤◌, ◌-◌, length}
use Rattle.tree_objects.proofs.splits.reaching.Given as goal

-- the place stays among the spans
abbrev pub invariant-loop-near : goal.invariant-loop-near
invariant-loop-near l = l.near ≤ length l.spans

abbrev pub decreases-loop-near : goal.decreases-loop-near
decreases-loop-near l = length l.spans - l.near
