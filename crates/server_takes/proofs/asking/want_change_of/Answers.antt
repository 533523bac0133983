use Rattle.std.proofs.Common.{◌≡◌, ◌∙◌, ap, refl}
use Rattle.std.proofs.lemmas.Result.{on_ok_weaker}
use Rattle.run_rules.specs.declared.applied.Request.TheVariants.{Change as Changes}
use Rattle.server_takes.proofs.Parts.{want_so}
use Rattle.server_takes.specs.Taking.{Made}
use Rattle.server_takes.proofs.asking.want_change_of.Goals as goal

pub returns-clause-tables : goal.returns-clause-tables
returns-clause-tables c =
    on_ok_weaker c.enqueue.result (λ e. e ∙ ap (λ (m : Made). m.tables)
    (want_so c.args.tables.now c.args.draft.now c.args.host _ _ _ _ (ap Changes c.in_ok-change.ensures) refl))
    c.enqueue.ensures.tables

pub returns-clause-draft : goal.returns-clause-draft
returns-clause-draft c =
    on_ok_weaker c.enqueue.result (λ e. e ∙ ap (λ (m : Made). m.draft)
    (want_so c.args.tables.now c.args.draft.now c.args.host _ _ _ _ (ap Changes c.in_ok-change.ensures) refl))
    c.enqueue.ensures.draft
