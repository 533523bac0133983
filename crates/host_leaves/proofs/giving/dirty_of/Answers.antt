use Rattle.std.proofs.Common.{sym, ◌∙◌}
use Rattle.host_leaves.specs.Dirtying.{is_dirty_under}
use Rattle.host_leaves.proofs.Steps.{kept_no, kept_yes}
use Rattle.host_leaves.proofs.giving.dirty_of.Goals.{then-is_dirty_under+in_ok-push, else-is_dirty_under}
use Rattle.host_leaves.proofs.giving.dirty_of.Goals as goal

pub loop-token-preserved : goal.loop-token-preserved
loop-token-preserved c =
    let test = is_dirty_under c.args.spans.now c.args.length in
    elim c.if-is_dirty_under.branch [
      | then-is_dirty_under+in_ok-push w ↦
          w.tokens-is ∙ w.in_ok-push.ensures.ok
          ∙ kept_yes c.args.held.now c.loop-token.token-index c.token-item.result c.loop-token-test.true
          c.token-item.is test c.loop-token.tokens
          (sym c.is_dirty_under.ensures ∙ w.if-is_dirty_under.true) c.loop-token.invariant
      | else-is_dirty_under w ↦
          w.tokens-is
          ∙ kept_no c.args.held.now c.loop-token.token-index c.token-item.result c.loop-token-test.true
          c.token-item.is test c.loop-token.tokens
          (sym c.is_dirty_under.ensures ∙ w.if-is_dirty_under.false) c.loop-token.invariant
    ]
