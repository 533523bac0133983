use Rattle.std.proofs.Common.{subst, take}
use Rattle.std.specs.Prelude.{option_copied}
use Rattle.host_leaves.proofs.Steps.{fold_next, take_whole}
use Rattle.host_manager.specs.Learning.{HasTaken, Taking, taking, taking_from, taking_one}
use Rattle.host_manager.proofs.Learnt.{took_more}
use Rattle.token_types.specs.declared.token.Token.{Token}
use Rattle.std.proofs.Common.{List}
use Rattle.host_manager.proofs.learning.take_tokens.Goals as goal

pub loop-token-preserved : goal.loop-token-preserved
loop-token-preserved c =
    let m = c.args.tables.now in
    let draft = c.args.draft.now in
    let grant = option_copied c.args.grant in
    let tokens = c.args.tokens.now in
    subst (λ (at : Taking). HasTaken m draft at c.take_new.new.tables c.take_new.new.draft)
    (fold_next tokens c.loop-token.token-index c.token-item.result c.loop-token-test.true c.token-item.is
    (taking_one grant) (taking_from m draft))
    (took_more grant m draft (taking grant (take c.loop-token.token-index tokens) (taking_from m draft))
    c.loop-token.tables c.loop-token.draft c.token-item.result c.take_new.new.tables c.take_new.new.draft
    c.loop-token.invariant c.in_ok-take_new.ensures)

pub returns : goal.returns
returns c =
    let m = c.args.tables.now in
    let draft = c.args.draft.now in
    subst (λ (ts : List Token). HasTaken m draft (taking (option_copied c.args.grant) ts (taking_from m draft))
    c.loop-token.tables c.loop-token.draft) (take_whole c.args.tokens.now c.loop-token.token-index
    c.loop-token-test.false)
    c.loop-token.invariant
