use Rattle.std.proofs.Common.{arith}
use Rattle.disk_log.specs.Log.{state_of, slot_of}
use Rattle.disk_anode.specs.Node.{names}
use Rattle.disk_anode.specs.Room.{are_counts, with_counts}
use Rattle.disk_anode.proofs.Putting.{may_fewer}
use Rattle.disk_anode.proofs.Moving.{then_quiet}
use Rattle.disk_anode.proofs.Saving.{counts_in, may_page, puts_page}
use Rattle.disk_anode.proofs.Plain.{bare_here, freed_turned}
use Rattle.std.specs.Prelude.{[]}
use Rattle.disk_anode.proofs.Free.{free_put}
use Rattle.disk_anode.proofs.making.free_node.Goals as goal

pub clear_all-requires-clause-may : goal.clear_all-requires-clause-may
clear_all-requires-clause-may g c = may_fewer are_counts (with_counts c.args.page) (state_of c.args.log.now) (slot_of c.args.tx.now) (λ p is. counts_in c.args.page p is) c.requires.may

pub put-requires-clause-may : goal.put-requires-clause-may
put-requires-clause-may g c = let e = c.clear_all.ensures.tx in may_page c.args.page (slot_of c.args.tx.now) _ (state_of c.args.log.now) (state_of c.clear_all.new.log) (λ i. slot_of (e i)) c.requires.sound.many c.requires.page c.requires.may c.clear_all.ensures.puts

pub returns-clause-puts : goal.returns-clause-puts
returns-clause-puts g c = let e = c.clear_all.ensures.tx in
    puts_page c.args.page (slot_of c.args.tx.now) _ (state_of c.args.log.now) (state_of c.clear_all.new.log) (state_of c.put.new.self) _ _ (λ i. slot_of (e i)) c.requires.sound.many c.requires.page c.requires.may c.clear_all.ensures.puts c.in_ok-put.ensures.put.1

pub returns-in_err-put-clause-wrote : goal.returns-in_err-put-clause-wrote
returns-in_err-put-clause-wrote g c = λ told. then_quiet (names c.args.node.now) (state_of c.args.log.now) _ _ _ (c.clear_all.ensures.wrote told) c.put.ensures.quiet

pub returns-clause-wrote : goal.returns-clause-wrote
returns-clause-wrote g c = λ told. then_quiet (names c.args.node.now) (state_of c.args.log.now) _ _ _ (c.clear_all.ensures.wrote told) c.put.ensures.quiet

pub returns-clause-turned : goal.returns-clause-turned
returns-clause-turned g c = λ told.
    freed_turned c.args.page _ c.u32_at-unique.result c.args.node.now c.clear_all.new.node (state_of c.args.log.now) _ (state_of c.clear_all.new.log) _ (state_of c.put.new.self) _ c.anode_page.result _ c.requires.page
    c.anode_page.ensures c.u32_at-unique.ensures c.clear_all.ensures.facts c.in_ok-clear_all.ensures.none (c.in_ok-clear_all.ensures.moves told) c.in_ok-put.ensures.put.1 c.in_ok-put.ensures.pages c.put.ensures.quiet.image

pub returns-clause-bare : goal.returns-clause-bare
returns-clause-bare g c = λ told.
    bare_here c.args.page _ 0 c.u32_at-unique.result [] [] c.anode_page.result _ c.anode_page.ensures (state_of c.clear_all.new.log) (state_of c.put.new.self) _ _ c.requires.page c.in_ok-put.ensures.put.1 c.in_ok-put.ensures.pages c.put.ensures.quiet.image

pub returns-clause-room : goal.returns-clause-room
returns-clause-room g c = λ told.
    let a = c.in_ok-clear_all.ensures.room told in
    let b = free_put c.args.page _ c.anode_page.result _ (state_of c.clear_all.new.log) (state_of c.put.new.self) _ _ c.requires.page c.in_ok-put.ensures.put.1 c.in_ok-put.ensures.pages c.put.ensures.quiet.image in
    omega (arith, a, b)
