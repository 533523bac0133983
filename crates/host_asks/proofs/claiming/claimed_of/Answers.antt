use Rattle.std.proofs.Common.{sym, ◌∙◌}
use Rattle.host_asks.specs.Claiming.{is_before}
use Rattle.host_leaves.proofs.Steps.{kept_no, kept_yes}
use Rattle.host_asks.proofs.claiming.claimed_of.Goals.{then-is_before+in_ok-push, else-is_before}
use Rattle.host_asks.proofs.claiming.claimed_of.Goals as goal

pub loop-token-preserved : goal.loop-token-preserved
loop-token-preserved c =
    let test = is_before c.args.server c.args.epoch in
    elim c.if-is_before.branch [
      | then-is_before+in_ok-push w ↦
          w.tokens-is ∙ w.in_ok-push.ensures.ok
          ∙ kept_yes c.args.owned.now c.loop-token.token-index c.token-item.result c.loop-token-test.true
          c.token-item.is test c.loop-token.tokens
          (sym c.is_before.ensures ∙ w.if-is_before.true) c.loop-token.invariant
      | else-is_before w ↦
          w.tokens-is
          ∙ kept_no c.args.owned.now c.loop-token.token-index c.token-item.result c.loop-token-test.true
          c.token-item.is test c.loop-token.tokens
          (sym c.is_before.ensures ∙ w.if-is_before.false) c.loop-token.invariant
    ]
