use Rattle.std.proofs.Common.{rules, nat_lt, ◌≤◌, take, drop, subst, sym, ◌∙◌, arith, ◌||◌}
use Rattle.std.proofs.lemmas.List.{drop_all}
use Rattle.std.proofs.lemmas.List.Sorted.{IsPartitionPoint-from_clause}
use Rattle.base_types.specs.declared.span.Span.{Span}
use Rattle.base_types.specs.Spans.{in_spans, has_byte}
use Rattle.token_ranges.proofs.Apart.{next_of, same_at}
use Rattle.token_ranges.proofs.Joining.{parts_apart, starts, grows, with_next, joined_apart, joined_positions}
use Rattle.token_ranges.proofs.Joining.{begins_behind, begins_none}
use Rattle.token_ranges.proofs.span_set.joint_of.Goals as goal

pub loop-end-init : goal.loop-end-init
loop-end-init c =
    let spans = c.args.spans.now in let i = c.partition_point-front.result in
    let bound = c.partition_point-front.ensures.bound in
    let point = IsPartitionPoint-from_clause (λ (next : Span). nat_lt next.to c.args.span.from) spans i
    c.partition_point-front.ensures.partitioned (parts_apart c.args.span.from spans c.requires.apart)
    (λ a r f' q. search rules) in
    let begun = starts spans c.args.span i c.requires.apart c.requires.filled bound point.0 point.1 in
    (bound, (begun, omega arith))

pub loop-end-preserved : goal.loop-end-preserved
loop-end-preserved c =
    let spans = c.args.spans.now in let next = c.index-spans-end-in-loop-end in
    let up = subst (λ (one : Span). one.from ≤ c.loop-end.merged.to)
    (sym (next.is ∙ same_at spans c.loop-end.end next.result c.index-spans-end.result c.loop-end-test.true))
    c.if-spans-end.true in
    let split = next_of spans next.result c.loop-end.end c.loop-end-test.true next.is in
    let grown = grows _ _ _ next.result _ _ up c.around-merged.ensures.from c.around-merged.ensures.to
    (with_next _ _ _ _ _ _ split c.loop-end.invariant.1.0) in
    (omega (arith, c.loop-end-test.true), (grown, omega (arith, c.loop-end.invariant.1.1)))

pub returns-else-spans-end-clause-apart : goal.returns-else-spans-end-clause-apart
returns-else-spans-end-clause-apart c =
    let spans = c.args.spans.now in let end = c.loop-end.end in let merged = c.loop-end.merged in
    joined_apart _ (take c.partition_point-front.result spans) merged (drop end spans) merged.within
    (begins_behind merged.to end spans c.index-spans-end.result c.loop-end-test.true c.index-spans-end.is
    c.if-spans-end.false) c.loop-end.invariant.1.0

pub returns-after-loop-end-clause-apart : goal.returns-after-loop-end-clause-apart
returns-after-loop-end-clause-apart c =
    let spans = c.args.spans.now in let end = c.loop-end.end in let merged = c.loop-end.merged in
    joined_apart _ (take c.partition_point-front.result spans) merged (drop end spans) merged.within
    (begins_none merged.to (drop end spans) (drop_all end spans c.loop-end-test.false)) c.loop-end.invariant.1.0

pub returns-else-spans-end-clause-positions : goal.returns-else-spans-end-clause-positions
unfolding Rattle.token_ranges.specs.Positions.Joins
returns-else-spans-end-clause-positions c = λ at.
    joined_positions (λ k. in_spans c.args.spans.now k || has_byte c.args.span k)
    (take c.partition_point-front.result c.args.spans.now) c.loop-end.merged (drop c.loop-end.end c.args.spans.now)
    c.loop-end.invariant.1.0 at

pub returns-after-loop-end-clause-positions : goal.returns-after-loop-end-clause-positions
unfolding Rattle.token_ranges.specs.Positions.Joins
returns-after-loop-end-clause-positions c = λ at.
    joined_positions (λ k. in_spans c.args.spans.now k || has_byte c.args.span k)
    (take c.partition_point-front.result c.args.spans.now) c.loop-end.merged (drop c.loop-end.end c.args.spans.now)
    c.loop-end.invariant.1.0 at
