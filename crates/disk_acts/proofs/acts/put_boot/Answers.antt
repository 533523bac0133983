use Rattle.std.proofs.Common.{arith}
use Rattle.disk_acts.specs.Steps.{beside_anodes}
use Rattle.disk_acts.proofs.Stepping.{steps_then}
use Rattle.disk_acts.proofs.Chaining.{boot_next}
use Rattle.disk_acts.proofs.acts.put_boot.Goals as goal

pub returns-clause-says : goal.returns-clause-says
returns-clause-says g c = λ old tables made. boot_next g.D.Disk.tells g.D.Disk.view old c.args.state.now c.say_all.result c.args.log.now c.say_server.new.log c.say_all.new.log made c.in_ok-say_server.ensures.says c.say_all.ensures.says

pub returns-clause-steps : goal.returns-clause-steps
returns-clause-steps g c =
    steps_then g.D.Disk.tells g.D.Disk.view beside_anodes beside_anodes beside_anodes 0 0 0 _ c.say_all.result c.args.log.now c.say_server.new.log c.say_all.new.log c.args.tx.now c.say_server.new.tx c.say_all.new.tx (λ p is. is) (λ p is. is) (omega arith)
    c.in_ok-say_server.ensures.steps c.say_all.ensures.steps
