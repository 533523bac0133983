use Rattle.std.proofs.Common.{List, refl, subst, sym, ◌∙◌}
use Rattle.std.specs.Prelude.{option_copied}
use Rattle.std.proofs.lemmas.Result.{on_ok_weaker}
use Rattle.host_manager.specs.Learning.{HasTaken, taking, taking_from}
use Rattle.host_manager.specs.Learning.UsesBring.{MayNot, UsesIt}
use Rattle.host_tables.specs.declared.files.Floor.{Floor}
use Rattle.token_types.specs.declared.token.Token.{Token}
use Rattle.host_manager.proofs.learning.use_bring.Goals as goal

pub returns-then-not-may_use : goal.returns-then-not-may_use
returns-then-not-may_use c = MayNot (sym c.may_use.ensures ∙ c.if-not-may_use.true) refl refl

pub returns : goal.returns
returns c =
    let m = c.args.tables.now in
    let draft = c.args.draft.now in
    on_ok_weaker c.take_tokens.result (λ t. UsesIt (sym c.may_use.ensures ∙ c.if-not-may_use.false)
    (subst (λ (q : List Floor × List Token). HasTaken (record m { floors = q.0 }) draft
    (taking (option_copied c.args.grant) q.1 (taking_from m draft)) c.take_tokens.new.tables c.take_tokens.new.draft)
    (λ i. (c.in_ok-raise_to.ensures i, c.as_slice.ensures i)) t)) c.take_tokens.ensures
