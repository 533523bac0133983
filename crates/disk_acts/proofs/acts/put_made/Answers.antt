use Rattle.disk_acts.proofs.Chaining.{made_boot}
use Rattle.disk_acts.proofs.acts.put_made.Goals as goal

pub returns-in-Boot-clause-says : goal.returns-in-Boot-clause-says
returns-in-Boot-clause-says g c = λ old made. c.put_boot.ensures.says old made.tables (made_boot old c.args.act.now c.args.before.now c.args.state.now c.in-Boot.is made)

pub returns-in_default : goal.returns-in_default
returns-in_default g c = record { says = λ old made. c.put_filesets.ensures.says old made c.in_default.not-Boot; steps = c.put_filesets.ensures.steps }
