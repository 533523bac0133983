use Rattle.disk_acts.proofs.Settled.{forced_durable}
use Rattle.disk_acts.proofs.settling.settle.Goals as goal

pub returns-in-Ok-clause-settles : goal.returns-in-Ok-clause-settles
returns-in-Ok-clause-settles g c = record {
  durable = forced_durable g.D.Disk.tells g.D.Disk.view c.args.log.now c.force.new.self c.requires.idle c.in-Ok.ensures.sound c.in-Ok.ensures.stages c.in-Ok.ensures.blocks c.in-Ok.ensures.durable c.in-Ok.ensures.state;
  crash = c.in-Ok.ensures.crash;
  counted = c.in-Ok.ensures.blamed.counted;
  only = tt;
}
