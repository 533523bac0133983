use Rattle.std.proofs.Common.{◌&&◌, not, drop}
use Rattle.base_types.specs.Spans.{has_byte, in_spans}
use Rattle.token_ranges.proofs.Missing.{IsMissing}
use Rattle.token_ranges.proofs.span_set.gaps.Given as goal

abbrev pub invariant-loop-next : goal.invariant-loop-next
invariant-loop-next l = IsMissing (λ at. has_byte l.span at && not (in_spans l.spans at)) l.span l.done l.at
    (drop l.next-index l.spans)
