use Rattle.std.proofs.Common.{sym, ◌∙◌}
use Rattle.host_leaves.specs.Giving.{has_to_give}
use Rattle.host_leaves.proofs.Steps.{kept_no, kept_yes}
use Rattle.host_leaves.proofs.giving.named_of.Goals.{then-has_to_give+in_ok-push, else-has_to_give}
use Rattle.host_leaves.proofs.giving.named_of.Goals as goal

pub loop-token-preserved : goal.loop-token-preserved
loop-token-preserved c =
    let test = has_to_give c.args.tables.now.gives.gives c.args.spans.now c.args.length in
    elim c.if-has_to_give.branch [
      | then-has_to_give+in_ok-push w ↦
          w.giving-is ∙ w.in_ok-push.ensures.ok
          ∙ kept_yes c.args.tokens.now c.loop-token.token-index c.token-item.result c.loop-token-test.true
          c.token-item.is test c.loop-token.giving
          (sym c.has_to_give.ensures ∙ w.if-has_to_give.true) c.loop-token.invariant
      | else-has_to_give w ↦
          w.giving-is
          ∙ kept_no c.args.tokens.now c.loop-token.token-index c.token-item.result c.loop-token-test.true
          c.token-item.is test c.loop-token.giving
          (sym c.has_to_give.ensures ∙ w.if-has_to_give.false) c.loop-token.invariant
    ]
