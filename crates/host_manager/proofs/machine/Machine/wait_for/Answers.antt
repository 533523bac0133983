use Rattle.host_manager.proofs.Lapsing.{bare_line}
use Rattle.host_manager.specs.Spoken.{tables_of}
use Rattle.host_manager.specs.Running.{LineRight}
use Rattle.script_lines.specs.declared.script.Deed.TheVariants.{Await}
use Rattle.std.proofs.Common.{subst, sym}
use Rattle.host_manager.proofs.Owned.{bare_own}
use Rattle.host_manager.specs.Due.{IsOwn, LineDue}
use Rattle.host_manager.proofs.LinesDue.{bare_due}
use Rattle.run_rules.specs.declared.step.Cause.TheVariants.{Line as LineOf}
use Rattle.host_manager.proofs.machine.Machine.wait_for.Goals as goal

pub returns-clause-right : goal.returns-clause-right
returns-clause-right c =
    let m = tables_of c.args.self.now in
    subst (LineRight m m c.args.line (Await c.args.flag.now)) (sym c.bare.ensures)
    (bare_line m c.args.line (Await c.args.flag.now) tt c.requires)

pub returns-clause-own : goal.returns-clause-own
returns-clause-own c =
    let m = tables_of c.args.self.now in
    subst (IsOwn m) (sym c.bare.ensures) (bare_own m (LineOf c.args.line))

pub returns-clause-due : goal.returns-clause-due
returns-clause-due c =
    let m = tables_of c.args.self.now in
    subst (LineDue m c.args.line (Await c.args.flag.now)) (sym c.bare.ensures)
    (bare_due m c.args.line (Await c.args.flag.now)
    (bare_line m c.args.line (Await c.args.flag.now) tt c.requires))
