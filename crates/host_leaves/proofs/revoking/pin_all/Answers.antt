use Rattle.std.proofs.Common.{ap, take, ◌∙◌}
use Rattle.host_labels.specs.Labels.{InUse, after_pin, has_id}
use Rattle.token_types.specs.declared.token.Token.{Token}
use Rattle.host_leaves.proofs.Sorting.{pinned_labels}
use Rattle.host_leaves.proofs.Steps.{fold_next, item_in}
use Rattle.host_leaves.proofs.revoking.pin_all.Goals as goal

pub pin-requires : goal.pin-requires
pin-requires c =
    ap (λ (uses : InUse). has_id uses.labels c.token-item.result.id) c.loop-token.invariant
    ∙ ap (λ labels. has_id labels c.token-item.result.id)
    (pinned_labels (take c.loop-token.token-index c.args.tokens.now) c.args.uses.now)
    ∙ c.requires c.token-item.result (item_in c.args.tokens.now c.loop-token.token-index c.token-item.result
    c.loop-token-test.true c.token-item.is)

pub loop-token-preserved : goal.loop-token-preserved
loop-token-preserved c =
    c.in_ok-pin.ensures.after
    ∙ ap (λ uses. after_pin uses c.token-item.result.id) c.loop-token.invariant
    ∙ fold_next c.args.tokens.now c.loop-token.token-index c.token-item.result c.loop-token-test.true c.token-item.is
    (λ (uses : InUse) (token : Token). after_pin uses token.id) c.args.uses.now
