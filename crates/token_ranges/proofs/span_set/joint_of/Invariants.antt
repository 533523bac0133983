use Rattle.std.proofs.Common.{◌||◌, ◌≤◌, ◌-◌, length, take, drop}
use Rattle.base_types.specs.Spans.{has_byte, in_spans}
use Rattle.token_ranges.proofs.Joining.{IsJoining}
use Rattle.token_ranges.proofs.span_set.joint_of.Given as goal

abbrev pub invariant-loop-end : goal.invariant-loop-end
invariant-loop-end l =
    (l.end ≤ length l.spans)
    × (IsJoining (λ at. in_spans l.spans at || has_byte l.fn.span at) (take l.front l.spans) l.merged
    (drop l.end l.spans) × (l.front ≤ l.end))

abbrev pub decreases-loop-end : goal.decreases-loop-end
decreases-loop-end l = length l.spans - l.end
