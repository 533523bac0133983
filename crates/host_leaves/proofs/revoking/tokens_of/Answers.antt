use Rattle.std.proofs.Common.{sym, ◌∙◌}
use Rattle.base_types.specs.Ids.{same_fid}
use Rattle.token_types.specs.declared.token.Token.{Token}
use Rattle.host_leaves.proofs.Steps.{kept_no, kept_yes}
use Rattle.host_leaves.proofs.revoking.tokens_of.Goals.{then-is_of+in_ok-push, else-is_of}
use Rattle.host_leaves.proofs.revoking.tokens_of.Goals as goal

pub loop-token-preserved : goal.loop-token-preserved
loop-token-preserved c =
    let test = λ (token : Token). same_fid token.fid c.args.fid in
    elim c.if-is_of.branch [
      | then-is_of+in_ok-push w ↦
          w.here-is ∙ w.in_ok-push.ensures.ok
          ∙ kept_yes c.args.tokens.now c.loop-token.token-index c.token-item.result c.loop-token-test.true
          c.token-item.is test c.loop-token.here
          (sym c.is_of.ensures ∙ w.if-is_of.true) c.loop-token.invariant
      | else-is_of w ↦
          w.here-is
          ∙ kept_no c.args.tokens.now c.loop-token.token-index c.token-item.result c.loop-token-test.true
          c.token-item.is test c.loop-token.here
          (sym c.is_of.ensures ∙ w.if-is_of.false) c.loop-token.invariant
    ]
