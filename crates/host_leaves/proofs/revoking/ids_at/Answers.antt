use Rattle.std.proofs.Common.{sym, ◌∙◌}
use Rattle.base_types.specs.Ids.{same_fid}
use Rattle.token_types.specs.declared.token.Token.{Token}
use Rattle.host_leaves.proofs.Steps.{picked_no, picked_yes}
use Rattle.host_leaves.proofs.revoking.ids_at.Goals.{then-is_of+in_ok-push, else-is_of}
use Rattle.host_leaves.proofs.revoking.ids_at.Goals as goal

pub loop-token-preserved : goal.loop-token-preserved
loop-token-preserved c =
    let id = λ (token : Token). token.id in
    let test = λ (token : Token). same_fid token.fid c.args.fid in
    elim c.if-is_of.branch [
      | then-is_of+in_ok-push w ↦
          w.ids-is ∙ w.in_ok-push.ensures.ok
          ∙ picked_yes c.args.tokens.now c.loop-token.token-index c.token-item.result c.loop-token-test.true
          c.token-item.is id test c.loop-token.ids
          (sym c.is_of.ensures ∙ w.if-is_of.true) c.loop-token.invariant
      | else-is_of w ↦
          w.ids-is
          ∙ picked_no c.args.tokens.now c.loop-token.token-index c.token-item.result c.loop-token-test.true
          c.token-item.is id test c.loop-token.ids
          (sym c.is_of.ensures ∙ w.if-is_of.false) c.loop-token.invariant
    ]
