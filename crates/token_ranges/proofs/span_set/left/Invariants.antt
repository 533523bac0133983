use Rattle.std.proofs.Common.{◌&&◌, not, drop}
use Rattle.base_types.specs.Spans.{has_byte, in_spans}
use Rattle.token_ranges.proofs.Cutting.{IsCutting}
use Rattle.token_ranges.proofs.span_set.left.Given as goal

abbrev pub invariant-loop-next : goal.invariant-loop-next
invariant-loop-next l = IsCutting (λ at. in_spans l.spans at && not (has_byte l.span at)) l.span l.done
    (drop l.next-index l.spans)
