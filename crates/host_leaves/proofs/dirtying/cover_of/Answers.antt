use Rattle.std.proofs.Common.{ap, ◌||◌, ◌∙◌}
use Rattle.host_leaves.specs.Dirtying.{updates_byte}
use Rattle.host_leaves.proofs.Steps.{any_next}
use Rattle.host_leaves.proofs.dirtying.cover_of.Goals as goal

pub loop-token-preserved : goal.loop-token-preserved
loop-token-preserved c at =
    c.in_ok-add_span.ensures at
    ∙ ap (λ has. has || updates_byte at c.token-item.result) (c.loop-token.invariant at)
    ∙ any_next c.args.tokens.now c.loop-token.token-index c.token-item.result c.loop-token-test.true c.token-item.is
    (updates_byte at)
