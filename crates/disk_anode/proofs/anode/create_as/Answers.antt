use Rattle.std.proofs.Common.{arith, refl}
use Rattle.disk_log.specs.Log.{disk_of, state_of, slot_of}
use Rattle.disk_anode.specs.Room.{is_page}
use Rattle.disk_anode.proofs.Putting.{may_one, puts_one, test_same}
use Rattle.disk_anode.proofs.Plain.{bare_here, bare_made}
use Rattle.disk_anode.proofs.Free.{free_put}
use Rattle.disk_anode.proofs.anode.create_as.Goals as goal

pub put-requires-clause-may : goal.put-requires-clause-may
put-requires-clause-may g c =
    let page = c.args.page in
    let many = c.requires.sound.many in
    let low = c.requires.page in
    may_one (is_page page) (state_of c.args.log.now) (slot_of c.args.tx.now) page c.requires.may (test_same page page refl) (omega (arith, many, low))

pub returns-clause-puts : goal.returns-clause-puts
returns-clause-puts g c =
    let page = c.args.page in
    let many = c.requires.sound.many in
    let low = c.requires.page in
    puts_one (is_page page) (state_of c.args.log.now) (state_of c.put.new.self) _ c.in_ok-put.ensures.put.1 (test_same page page refl) (omega (arith, many, low))
    (c.requires.may.own page (omega (arith, many, low)) (test_same page page refl))

pub returns-clause-made : goal.returns-clause-made
returns-clause-made g c = λ told.
    bare_made c.args.page (slot_of c.args.tx.now) c.args.kind c.args.unique c.args.owner.now c.args.group.now c.anode_page-new.result c.in_ok-put.ensures.put.0 (state_of c.args.log.now) (state_of c.put.new.self)
    (g.D.Disk.view (disk_of c.args.log.now)).image (g.D.Disk.view (disk_of c.put.new.self)).image c.requires.page c.anode_page-new.ensures c.in_ok-put.ensures.put.1 c.in_ok-put.ensures.pages c.put.ensures.quiet.image

pub returns-clause-bare : goal.returns-clause-bare
returns-clause-bare g c = λ told.
    bare_here c.args.page (slot_of c.args.tx.now) c.args.kind c.args.unique c.args.owner.now c.args.group.now c.anode_page-new.result c.in_ok-put.ensures.put.0 c.anode_page-new.ensures
    (state_of c.args.log.now) (state_of c.put.new.self) _ _ c.requires.page c.in_ok-put.ensures.put.1 c.in_ok-put.ensures.pages c.put.ensures.quiet.image

pub returns-clause-room : goal.returns-clause-room
returns-clause-room g c = λ told.
    free_put c.args.page (slot_of c.args.tx.now) c.anode_page-new.result c.in_ok-put.ensures.put.0 (state_of c.args.log.now) (state_of c.put.new.self) _ _ c.requires.page
    c.in_ok-put.ensures.put.1 c.in_ok-put.ensures.pages c.put.ensures.quiet.image
