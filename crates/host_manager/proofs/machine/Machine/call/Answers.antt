use Rattle.host_manager.proofs.CallRight.{call_due, call_own, call_right}
use Rattle.host_manager.proofs.Tests.{when_so}
use Rattle.host_manager.specs.Closing.{BeginsIt}
use Rattle.host_manager.specs.Due.{IsOwn, LineDue}
use Rattle.host_manager.specs.Spoken.{tables_of}
use Rattle.host_manager.specs.Running.{LineRight}
use Rattle.script_lines.specs.declared.script.Deed.TheVariants.{Call as MakesCall}
use Rattle.std.proofs.Common.{subst, sym}
use Rattle.host_manager.proofs.machine.Machine.call.Goals as goal

pub returns-clause-right : goal.returns-clause-right
returns-clause-right c =
    let m = tables_of c.args.self.now in
    let new = c.begin-begun.new.tables in
    let after = c.begin-begun.new.draft in
    when_so c.begin-begun.result c.when.result c.step.result _ (LineRight m new c.args.line (MakesCall c.args.call.now))
    c.begin-begun.ensures c.when.ensures.done c.when.ensures.step
    (λ its. subst (LineRight m new c.args.line (MakesCall c.args.call.now)) (sym c.step.ensures)
    (call_right m new after c.args.line c.args.call.now c.requires c.laws-2.ensures c.laws-3.ensures c.laws-4.ensures
    (subst (λ d. BeginsIt m d c.args.call.now new after) c.new-draft.ensures its)))

pub returns-clause-own : goal.returns-clause-own
returns-clause-own c =
    let m = tables_of c.args.self.now in
    let new = c.begin-begun.new.tables in
    let after = c.begin-begun.new.draft in
    when_so c.begin-begun.result c.when.result c.step.result _ (IsOwn m)
    c.begin-begun.ensures c.when.ensures.done c.when.ensures.step
    (λ its. subst (IsOwn m) (sym c.step.ensures)
    (call_own m new after c.args.line c.args.call.now
    (subst (λ d. BeginsIt m d c.args.call.now new after) c.new-draft.ensures its)))

pub returns-clause-due : goal.returns-clause-due
returns-clause-due c =
    let m = tables_of c.args.self.now in
    let new = c.begin-begun.new.tables in
    let after = c.begin-begun.new.draft in
    when_so c.begin-begun.result c.when.result c.step.result _ (LineDue m c.args.line (MakesCall c.args.call.now))
    c.begin-begun.ensures c.when.ensures.done c.when.ensures.step
    (λ its. subst (LineDue m c.args.line (MakesCall c.args.call.now)) (sym c.step.ensures)
    (call_due m new after c.args.line c.args.call.now c.requires c.laws-2.ensures c.laws-3.ensures c.laws-4.ensures
    c.laws.ensures (subst (λ d. BeginsIt m d c.args.call.now new after) c.new-draft.ensures its)))
