use Rattle.disk_log.specs.Log.{state_of, slot_of}
use Rattle.disk_anode.specs.Node.{names}
use Rattle.disk_anode.specs.Room.{are_counts, with_counts}
use Rattle.std.proofs.Common.{arith}
use Rattle.disk_anode.proofs.Putting.{may_fewer}
use Rattle.disk_anode.proofs.Moving.{then_quiet}
use Rattle.disk_anode.proofs.Saving.{counts_in, may_page, puts_page, saved}
use Rattle.disk_anode.proofs.Cells.{alone_by}
use Rattle.disk_anode.proofs.Free.{free_put}
use Rattle.disk_anode.proofs.writing.save.Goals as goal

pub write_under-requires-clause-may : goal.write_under-requires-clause-may
write_under-requires-clause-may g c = may_fewer are_counts (with_counts c.args.page) (state_of c.args.log.now) (slot_of c.args.tx.now) (λ p is. counts_in c.args.page p is) c.requires.may

pub put-requires-clause-may : goal.put-requires-clause-may
put-requires-clause-may g c = let e = c.write_under.ensures.tx in may_page c.args.page (slot_of c.args.tx.now) _ (state_of c.args.log.now) (state_of c.write_under.new.log) (λ i. slot_of (e i)) c.requires.sound.many c.requires.page c.requires.may c.write_under.ensures.puts

pub returns-clause-puts : goal.returns-clause-puts
returns-clause-puts g c = let e = c.write_under.ensures.tx in
    puts_page c.args.page (slot_of c.args.tx.now) _ (state_of c.args.log.now) (state_of c.write_under.new.log) (state_of c.put.new.self) _ _ (λ i. slot_of (e i)) c.requires.sound.many c.requires.page c.requires.may c.write_under.ensures.puts c.in_ok-put.ensures.put.1

pub returns-in_err-put-clause-wrote : goal.returns-in_err-put-clause-wrote
returns-in_err-put-clause-wrote g c = λ told. then_quiet (names c.args.node.now) (state_of c.args.log.now) _ _ _ (c.write_under.ensures.wrote told) c.put.ensures.quiet

pub returns-clause-wrote : goal.returns-clause-wrote
returns-clause-wrote g c = λ told. then_quiet (names c.args.node.now) (state_of c.args.log.now) _ _ _ (c.write_under.ensures.wrote told) c.put.ensures.quiet

pub returns-clause-saved : goal.returns-clause-saved
returns-clause-saved g c = λ told.
    let same = c.write_under.ensures.puts.rest in
    saved c.args.page _ c.args.node.now (state_of c.args.log.now) _ c.write_under.new.node (state_of c.write_under.new.log) _ (state_of c.put.new.self) _ _ c.requires.page
    c.requires.blocks (λ i. (same i).superblock.blocks) c.write_under.ensures.facts.blocks c.write_under.ensures.map (omega arith) c.write_under.ensures.others (alone_by (state_of c.write_under.new.log) _ c.write_under.new.node (c.in_ok-write_under.ensures.fresh told)) (c.in_ok-write_under.ensures.replaced told)
    c.in_ok-put.ensures.put.1 c.in_ok-put.ensures.pages c.put.ensures.quiet.image

pub returns-clause-room : goal.returns-clause-room
returns-clause-room g c = λ told.
    let a = c.in_ok-write_under.ensures.room told in
    let b = free_put c.args.page _ c.write_under.new.node.page _ (state_of c.write_under.new.log) (state_of c.put.new.self) _ _ c.requires.page c.in_ok-put.ensures.put.1 c.in_ok-put.ensures.pages c.put.ensures.quiet.image in
    omega (arith, a, b)
