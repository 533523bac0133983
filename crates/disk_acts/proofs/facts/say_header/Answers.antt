use Rattle.std.proofs.Common.{◌+◌, ◌*◌, arith}
use Rattle.disk_log.specs.Log.{slot_of}
use Rattle.disk_pages.specs.Puts.{SaysHeader}
use Rattle.disk_acts.proofs.Stepping.{page_steps, page_said, header_none}
use Rattle.disk_acts.proofs.facts.say_header.Goals as goal

pub returns-clause-says : goal.returns-clause-says
returns-clause-says g c =
    page_said g.D.Disk.tells g.D.Disk.view (2 + 66 * c.args.slot) c.header_page.result (slot_of c.args.tx.now) (SaysHeader c.args.header.now) c.args.log.now c.put_header.new.log c.as_node.result c.put_header.result c.header_page.ensures c.as_node.ensures (let lt = c.requires.slot in omega (arith, lt)) (header_none c.args.slot) c.put_header.ensures.put

pub returns-clause-steps : goal.returns-clause-steps
returns-clause-steps g c =
    page_steps g.D.Disk.tells g.D.Disk.view (2 + 66 * c.args.slot) c.header_page.result (SaysHeader c.args.header.now) c.args.log.now c.put_header.new.log c.args.tx.now c.put_header.new.tx c.as_node.result c.put_header.result c.header_page.ensures c.put_header.ensures.tx c.as_node.ensures c.put_header.ensures.put
