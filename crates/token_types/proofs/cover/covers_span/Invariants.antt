use Rattle.std.proofs.Common.{◌-◌, ◌≤◌}
use Rattle.token_types.specs.Covers.{CoversBetween}
use Rattle.token_types.proofs.cover.covers_span.Given as goal

-- all bytes so far are covered
abbrev pub invariant-loop-at : goal.invariant-loop-at
invariant-loop-at l = (l.span.from ≤ l.at) × CoversBetween l.held l.fid l.update l.span.from l.at

abbrev pub decreases-loop-at : goal.decreases-loop-at
decreases-loop-at l = l.span.to - l.at
