use Rattle.std.proofs.Common.{[], ap, ◌∙◌}
use Rattle.host_asks.specs.Claiming.{with_its_fileset}
use Rattle.host_leaves.proofs.Steps.{fold_next}
use Rattle.host_asks.proofs.claiming.filesets_of.Goals as goal

pub loop-token-preserved : goal.loop-token-preserved
loop-token-preserved c =
    c.in_ok-push_once.ensures
    ∙ ap (λ filesets. with_its_fileset filesets c.token-item.result) c.loop-token.invariant
    ∙ fold_next c.args.tokens.now c.loop-token.token-index c.token-item.result c.loop-token-test.true c.token-item.is
    with_its_fileset []
