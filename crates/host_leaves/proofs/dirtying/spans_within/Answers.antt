use Rattle.std.proofs.Common.{ap, ◌++◌, ◌∙◌}
use Rattle.host_leaves.specs.Dirtying.{within}
use Rattle.host_leaves.proofs.Steps.{flat_next}
use Rattle.host_leaves.proofs.dirtying.spans_within.Goals as goal

pub loop-span-preserved : goal.loop-span-preserved
loop-span-preserved c =
    c.in_ok-push_within.ensures
    ∙ ap (λ out. out ++ within c.span-item.result c.args.others.now) c.loop-span.invariant
    ∙ flat_next c.args.spans.now c.loop-span.span-index c.span-item.result c.loop-span-test.true c.span-item.is (λ
    span. within span c.args.others.now)
