use Rattle.std.proofs.Common.{ap, arith}
use Rattle.disk_log.specs.Log.{state_of, slot_of}
use Rattle.disk_anode.specs.Node.{pointer_of}
use Rattle.disk_anode.specs.Room.{are_counts, with_counts}
use Rattle.disk_anode.specs.declared.node.Node.{Node}
use Rattle.disk_anode.proofs.Putting.{may_fewer}
use Rattle.disk_anode.proofs.Saving.{counts_in, may_page, puts_page}
use Rattle.disk_anode.proofs.Free.{free_put}
use Rattle.disk_anode.proofs.Copied.{sharing_cloned, sharing_there}
use Rattle.disk_anode.proofs.copying.put_sharing.Goals as goal

pub share_all-requires-clause-may : goal.share_all-requires-clause-may
share_all-requires-clause-may g c = may_fewer are_counts (with_counts c.args.page) (state_of c.args.log.now) (slot_of c.args.tx.now) (λ p is. counts_in c.args.page p is) c.requires.may

pub put-requires-clause-may : goal.put-requires-clause-may
put-requires-clause-may g c = let e = c.share_all.ensures.tx in may_page c.args.page (slot_of c.args.tx.now) _ (state_of c.args.log.now) (state_of c.share_all.new.log) (λ i. slot_of (e i)) c.requires.sound.many c.requires.page c.requires.may c.share_all.ensures.puts

pub returns-clause-puts : goal.returns-clause-puts
returns-clause-puts g c = let e = c.share_all.ensures.tx in
    puts_page c.args.page (slot_of c.args.tx.now) _ (state_of c.args.log.now) (state_of c.share_all.new.log) (state_of c.put.new.self) _ _ (λ i. slot_of (e i)) c.requires.sound.many c.requires.page c.requires.may c.share_all.ensures.puts c.in_ok-put.ensures.put.1

pub returns-clause-cloned : goal.returns-clause-cloned
returns-clause-cloned g c = λ told.
    let rest = c.share_all.ensures.puts.rest in
    sharing_cloned c.args.page _ c.args.copy.now (state_of c.args.log.now) _ (state_of c.share_all.new.log) _ (state_of c.put.new.self) _ _ c.requires.page c.requires.blocks (λ i. (rest i).superblock.blocks) (c.requires.map told) (c.requires.named told)
    (c.in_ok-share_all.ensures.moves told) c.share_all.ensures.quiet.image c.in_ok-put.ensures.put.1 c.in_ok-put.ensures.pages c.put.ensures.quiet.image

pub returns-clause-indirect : goal.returns-clause-indirect
returns-clause-indirect g c = λ told.
    let rest = c.share_all.ensures.puts.rest in
    let there = sharing_there c.args.page _ c.args.copy.now (state_of c.args.log.now) _ (state_of c.share_all.new.log) _ (state_of c.put.new.self) _ _ c.requires.page c.requires.blocks (λ i. (rest i).superblock.blocks) (c.requires.map told) (c.requires.named told)
    (c.in_ok-share_all.ensures.moves told) c.share_all.ensures.quiet.image c.in_ok-put.ensures.put.1 c.in_ok-put.ensures.pages c.put.ensures.quiet.image in
    ap (λ (x : Node). pointer_of x 15) there

pub returns-clause-room : goal.returns-clause-room
returns-clause-room g c = λ told.
    let a = c.in_ok-share_all.ensures.room told in
    let b = free_put c.args.page _ c.args.copy.now.page _ (state_of c.share_all.new.log) (state_of c.put.new.self) _ _ c.requires.page c.in_ok-put.ensures.put.1 c.in_ok-put.ensures.pages c.put.ensures.quiet.image in
    omega (arith, a, b)
