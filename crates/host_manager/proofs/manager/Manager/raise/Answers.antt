use Rattle.host_manager.proofs.manager.Manager.raise.Goals as goal
use Rattle.host_manager.specs.Due.{LineDue}
use Rattle.host_manager.specs.Running.{LineRight}
use Rattle.host_manager.specs.Spoken.{tables_of}
use Rattle.host_manager.specs.declared.machine.Machine.{Machine}
use Rattle.script_lines.specs.declared.script.Deed.TheVariants.{Raise}
use Rattle.std.proofs.Common.{subst}

pub returns-clause-right : goal.returns-clause-right
returns-clause-right c =
    subst (λ (m : Machine). LineRight (tables_of m) (tables_of m) c.args.line (Raise c.args.flag.now) c.raise.result)
    c.self.view_is c.raise.ensures.right

pub returns-clause-due : goal.returns-clause-due
returns-clause-due c =
    subst (λ (m : Machine). LineDue (tables_of m) c.args.line (Raise c.args.flag.now) c.raise.result) c.self.view_is
    c.raise.ensures.due
