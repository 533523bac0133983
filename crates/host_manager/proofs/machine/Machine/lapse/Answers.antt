use Rattle.base_types.specs.declared.ids.Node.TheVariants.{Host}
use Rattle.host_asks.specs.Claiming.{repeating}
use Rattle.host_manager.proofs.LapseDue.{lapse_due}
use Rattle.host_manager.proofs.Lapsing.{lapse_runs}
use Rattle.host_manager.proofs.Owned.{lapse_own}
use Rattle.host_manager.proofs.Tests.{when_so}
use Rattle.host_manager.specs.Due.{IsOwn, OwnDue}
use Rattle.host_manager.specs.Spoken.{tables_of}
use Rattle.host_tables.specs.Drafts.{step_of}
use Rattle.host_manager.specs.Running.{OwnRight}
use Rattle.run_rules.specs.declared.step.Cause.TheVariants.{Lapse}
use Rattle.std.proofs.Common.{ap, subst, sym, ◌∙◌}
use Rattle.host_manager.proofs.machine.Machine.lapse.Goals as goal

pub returns-clause-right : goal.returns-clause-right
returns-clause-right c =
    let m = tables_of c.args.self.now in
    when_so c.repeat_all-repeated.result c.when.result c.step.result _ (OwnRight Lapse m m)
    c.repeat_all-repeated.ensures c.when.ensures.done c.when.ensures.step
    (λ is. subst (OwnRight Lapse m m)
    (sym (c.step.ensures ∙ ap (step_of (Host m.host) Lapse) (is ∙ ap (repeating m) c.new-draft.ensures)))
    (lapse_runs m c.laws.ensures))

pub returns-clause-own : goal.returns-clause-own
returns-clause-own c =
    let m = tables_of c.args.self.now in
    when_so c.repeat_all-repeated.result c.when.result c.step.result _ (IsOwn m)
    c.repeat_all-repeated.ensures c.when.ensures.done c.when.ensures.step
    (λ is. subst (IsOwn m)
    (sym (c.step.ensures ∙ ap (step_of (Host m.host) Lapse) (is ∙ ap (repeating m) c.new-draft.ensures)))
    (lapse_own m))

pub returns-clause-due : goal.returns-clause-due
returns-clause-due c =
    let m = tables_of c.args.self.now in
    when_so c.repeat_all-repeated.result c.when.result c.step.result _ (OwnDue m)
    c.repeat_all-repeated.ensures c.when.ensures.done c.when.ensures.step
    (λ is. subst (OwnDue m)
    (sym (c.step.ensures ∙ ap (step_of (Host m.host) Lapse) (is ∙ ap (repeating m) c.new-draft.ensures)))
    (lapse_due m c.laws.ensures))
