use Rattle.std.proofs.Common.{None, ap, refl, subst, sym, ◌∙◌}
use Rattle.std.proofs.lemmas.Result.{on_ok_weaker}
use Rattle.host_asks.specs.Asking.{doing}
use Rattle.host_manager.specs.Learning.{UsesBring}
use Rattle.host_manager.specs.Taking.TakesBody.{IsDone, IsLateDone}
use Rattle.host_tables.specs.declared.tables.Tables.{Tables}
use Rattle.host_manager.proofs.taking.take_done.Goals as goal

pub returns-then-not-is_asked : goal.returns-then-not-is_asked
returns-then-not-is_asked c = IsLateDone c.args.done.now (sym c.is_asked.ensures ∙ c.if-not-is_asked.true) refl

pub returns : goal.returns
returns c =
    let told = c.in_ok-learn_outcome.ensures in
    on_ok_weaker c.go_on.result (λ h. IsDone c.args.done.now (sym c.is_asked.ensures ∙ c.if-not-is_asked.false)
    (doing c.use_uses.new.tables c.use_uses.new.draft)
    (λ uses. subst (λ (m : Tables). UsesBring c.args.done.now.bring None m c.args.draft.now c.use_uses.new.tables
    c.use_uses.new.draft) told (c.in_ok-use_uses.ensures.uses uses))
    (λ none. c.in_ok-use_uses.ensures.none none ∙ ap (λ (m : Tables). doing m c.args.draft.now) told) h)
    c.go_on.ensures
