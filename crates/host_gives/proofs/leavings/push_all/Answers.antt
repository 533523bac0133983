use Rattle.std.proofs.Common.{◌∙◌}
use Rattle.host_gives.specs.Leavings.{leaving_at}
use Rattle.host_gives.proofs.Left.{behind_next}
use Rattle.host_gives.proofs.leavings.push_all.Goals as goal

pub loop-token-preserved : goal.loop-token-preserved
loop-token-preserved c =
    c.in_ok-push.ensures.ok
    ∙ behind_next c.args.tokens.now c.loop-token.token-index c.token-item.result c.args.all.now c.loop-token.all
    (leaving_at c.args.key) c.loop-token-test.true c.token-item.is c.loop-token.invariant
