use Rattle.std.proofs.Common.{ap, not, sym, ◌∙◌}
use Rattle.token_types.specs.declared.token.Token.{Token}
use Rattle.host_leaves.specs.Dirtying.{is_named}
use Rattle.host_leaves.proofs.Steps.{picked_no, picked_yes}
use Rattle.host_leaves.proofs.giving.to_return.Goals.{then-not-names+in_ok-push, else-not-names}
use Rattle.host_leaves.proofs.giving.to_return.Goals as goal

pub loop-token-preserved : goal.loop-token-preserved
loop-token-preserved c =
    let id = λ (token : Token). token.id in
    let test = λ (token : Token). not (is_named c.args.giving.now token) in
    elim c.if-not-names.branch [
      | then-not-names+in_ok-push w ↦
          w.ids-is ∙ w.in_ok-push.ensures.ok
          ∙ picked_yes c.args.tokens.now c.loop-token.token-index c.token-item.result c.loop-token-test.true
          c.token-item.is id test c.loop-token.ids
          (ap not (sym c.names.ensures ∙ w.if-not-names.true)) c.loop-token.invariant
      | else-not-names w ↦
          w.ids-is
          ∙ picked_no c.args.tokens.now c.loop-token.token-index c.token-item.result c.loop-token-test.true
          c.token-item.is id test c.loop-token.ids
          (ap not (sym c.names.ensures ∙ w.if-not-names.false)) c.loop-token.invariant
    ]
