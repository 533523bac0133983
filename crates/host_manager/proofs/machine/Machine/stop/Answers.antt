use Rattle.host_manager.proofs.Owned.{stop_own}
use Rattle.host_manager.proofs.Parting.{stop_runs}
use Rattle.host_manager.proofs.StopDue.{stop_due}
use Rattle.host_manager.proofs.Tests.{when_so}
use Rattle.host_manager.specs.Closing.{GoesDown}
use Rattle.host_manager.specs.Due.{IsOwn, LineDue}
use Rattle.host_manager.specs.Spoken.{tables_of}
use Rattle.host_manager.specs.Running.{StopRight}
use Rattle.run_rules.specs.declared.step.Cause.TheVariants.{Line as LineOf}
use Rattle.script_lines.specs.declared.script.Deed.TheVariants.{Stop}
use Rattle.std.proofs.Common.{subst, sym}
use Rattle.host_manager.proofs.machine.Machine.stop.Goals as goal

pub returns-clause-right : goal.returns-clause-right
returns-clause-right c =
    let m = tables_of c.args.self.now in
    let new = c.go_down-gone.new.tables in
    let after = c.go_down-gone.new.draft in
    when_so c.go_down-gone.result c.when.result c.step.result _ (StopRight m c.args.line)
    c.go_down-gone.ensures c.when.ensures.done c.when.ensures.step
    (λ goes. subst (StopRight m c.args.line) (sym c.step.ensures)
    (stop_runs m new after c.args.line c.requires (subst (λ d. GoesDown m d new after) c.new-draft.ensures goes)))

pub returns-clause-own : goal.returns-clause-own
returns-clause-own c =
    let m = tables_of c.args.self.now in
    let new = c.go_down-gone.new.tables in
    let after = c.go_down-gone.new.draft in
    when_so c.go_down-gone.result c.when.result c.step.result _ (IsOwn m)
    c.go_down-gone.ensures c.when.ensures.done c.when.ensures.step
    (λ goes. subst (IsOwn m) (sym c.step.ensures)
    (stop_own m new after (LineOf c.args.line) (subst (λ d. GoesDown m d new after) c.new-draft.ensures goes)))

pub returns-clause-due : goal.returns-clause-due
returns-clause-due c =
    let m = tables_of c.args.self.now in
    let new = c.go_down-gone.new.tables in
    let after = c.go_down-gone.new.draft in
    when_so c.go_down-gone.result c.when.result c.step.result _ (LineDue m c.args.line Stop)
    c.go_down-gone.ensures c.when.ensures.done c.when.ensures.step
    (λ goes. subst (LineDue m c.args.line Stop) (sym c.step.ensures)
    (stop_due m new after c.args.line c.requires c.laws.ensures
    (subst (λ d. GoesDown m d new after) c.new-draft.ensures goes)))
