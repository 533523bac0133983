use Rattle.host_manager.proofs.OwnTakes.{takes_own}
use Rattle.host_manager.proofs.TakeRuns.{take_right}
use Rattle.host_manager.proofs.TakesDue.{take_due}
use Rattle.host_manager.proofs.Tests.{when_so}
use Rattle.host_manager.specs.Due.{IsOwn, TakeDue}
use Rattle.host_manager.specs.Spoken.{tables_of}
use Rattle.host_manager.specs.Taking.{HearsMessage}
use Rattle.host_manager.specs.Running.{TakeRight}
use Rattle.std.proofs.Common.{subst, sym}
use Rattle.host_manager.proofs.machine.Machine.take.Goals as goal

pub returns-clause-right : goal.returns-clause-right
returns-clause-right c =
    let m = tables_of c.args.self.now in
    let new = c.hear-heard.new.tables in
    let after = c.hear-heard.new.draft in
    when_so c.hear-heard.result c.when.result c.step.result _ (TakeRight m new c.args.message) c.hear-heard.ensures
    c.when.ensures.done c.when.ensures.step
    (λ its. subst (TakeRight m new c.args.message) (sym c.step.ensures)
    (take_right m new after c.args.message c.laws-2.ensures c.laws-3.ensures c.laws-4.ensures
    (subst (λ d. HearsMessage c.args.message m d new after) c.new-draft.ensures its)))

pub returns-clause-own : goal.returns-clause-own
returns-clause-own c =
    let m = tables_of c.args.self.now in
    let new = c.hear-heard.new.tables in
    let after = c.hear-heard.new.draft in
    when_so c.hear-heard.result c.when.result c.step.result _ (IsOwn m) c.hear-heard.ensures c.when.ensures.done
    c.when.ensures.step
    (λ its. subst (IsOwn m) (sym c.step.ensures)
    (takes_own m c.args.message new after (subst (λ d. HearsMessage c.args.message m d new after) c.new-draft.ensures
    its)))

pub returns-clause-due : goal.returns-clause-due
returns-clause-due c =
    let m = tables_of c.args.self.now in
    let new = c.hear-heard.new.tables in
    let after = c.hear-heard.new.draft in
    when_so c.hear-heard.result c.when.result c.step.result _ (TakeDue m c.args.message) c.hear-heard.ensures
    c.when.ensures.done c.when.ensures.step
    (λ its. subst (TakeDue m c.args.message) (sym c.step.ensures)
    (take_due m new after c.args.message c.laws-2.ensures c.laws-3.ensures c.laws-4.ensures c.laws.ensures
    (subst (λ d. HearsMessage c.args.message m d new after) c.new-draft.ensures its)))
