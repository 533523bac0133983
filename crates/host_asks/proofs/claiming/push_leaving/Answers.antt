use Rattle.std.proofs.Common.{◌∙◌}
use Rattle.host_gives.specs.declared.leavings.Leaving.{Leaving}
use Rattle.host_leaves.proofs.Steps.{behind_next}
use Rattle.host_asks.proofs.claiming.push_leaving.Goals as goal

pub loop-left-preserved : goal.loop-left-preserved
loop-left-preserved c =
    c.in_ok-push.ensures.ok
    ∙ behind_next c.args.leaving.now c.loop-left.left-index c.left-item.result c.loop-left-test.true c.left-item.is
    c.args.tokens.now c.loop-left.tokens
    (λ (left : Leaving). left.token) c.loop-left.invariant
