use Rattle.std.proofs.Common.{refl, arith}
use Rattle.disk_log.specs.Log.{state_of, slot_of}
use Rattle.disk_anode.specs.Room.{is_page}
use Rattle.disk_anode.proofs.Putting.{may_one, test_same}
use Rattle.disk_pages.proofs.PutOne.{put_done}
use Rattle.disk_pages.proofs.writing.put_page.Goals as goal

pub put-requires-clause-may : goal.put-requires-clause-may
put-requires-clause-may g c =
    let page = c.args.page in
    let many = c.requires.sound.many in
    let low = c.requires.page in
    may_one (is_page page) (state_of c.args.log.now) (slot_of c.args.tx.now) page c.requires.may (test_same page page refl) (omega (arith, many, low))

pub returns-clause-put : goal.returns-clause-put
returns-clause-put g c =
    put_done g.D.Disk.tells g.D.Disk.view (slot_of c.args.tx.now) c.args.page c.args.log.now c.put.new.self c.args.bytes.now c.put.result c.requires.page c.requires.sound.many c.requires.may
    c.put.ensures.keeps c.put.ensures.put c.put.ensures.err c.put.ensures.pages c.put.ensures.quiet c.put.ensures.only
