use Rattle.disk_acts.specs.Acts.{act_blocks}
use Rattle.disk_acts.proofs.Batching.{does_refused}
use Rattle.disk_acts.proofs.one.put_standing.Goals as goal

pub returns-in-Ok-false-clause-does : goal.returns-in-Ok-false-clause-does
returns-in-Ok-false-clause-does g c =
    does_refused g.D.Disk.tells g.D.Disk.view (act_blocks c.args.act.now) c.requires.made.0 c.args.after.now c.args.log.now c.requires.made.2

pub returns-in-Ok-false-2-clause-does : goal.returns-in-Ok-false-2-clause-does
returns-in-Ok-false-2-clause-does g c =
    does_refused g.D.Disk.tells g.D.Disk.view (act_blocks c.args.act.now) c.requires.made.0 c.args.after.now c.args.log.now c.requires.made.2
