use Rattle.std.proofs.Common.{refl, arith}
use Rattle.disk_log.specs.Log.{slot_of}
use Rattle.disk_pages.specs.Puts.{SaysFacts}
use Rattle.disk_acts.proofs.Stepping.{page_steps, page_said}
use Rattle.disk_acts.proofs.facts.say_facts.Goals as goal

pub returns-clause-says : goal.returns-clause-says
returns-clause-says g c =
    page_said g.D.Disk.tells g.D.Disk.view 0 0 (slot_of c.args.tx.now) (SaysFacts c.args.facts.now) c.args.log.now c.put_facts.new.log c.as_node.result c.put_facts.result refl c.as_node.ensures (omega arith) (refl) c.put_facts.ensures.put

pub returns-clause-steps : goal.returns-clause-steps
returns-clause-steps g c =
    page_steps g.D.Disk.tells g.D.Disk.view 0 0 (SaysFacts c.args.facts.now) c.args.log.now c.put_facts.new.log c.args.tx.now c.put_facts.new.tx c.as_node.result c.put_facts.result refl c.put_facts.ensures.tx c.as_node.ensures c.put_facts.ensures.put
