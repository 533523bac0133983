use Rattle.std.proofs.Common.{arith}
use Rattle.std.proofs.lemmas.Result.{on_ok_weaker}
use Rattle.disk_log.specs.Log.{state_of, slot_of}
use Rattle.disk_anode.specs.Node.{names}
use Rattle.disk_anode.specs.Room.{are_counts, with_counts}
use Rattle.disk_anode.proofs.Putting.{may_fewer}
use Rattle.disk_anode.proofs.Moving.{wrote_more}
use Rattle.disk_anode.proofs.Laid.{still_counted}
use Rattle.disk_anode.proofs.Saving.{counts_in}
use Rattle.disk_anode.proofs.Anodes.{list_turned}
use Rattle.disk_anode.proofs.writing.list_node.Goals as goal

pub write_under-requires-clause-may : goal.write_under-requires-clause-may
write_under-requires-clause-may g c = may_fewer are_counts (with_counts c.args.page) (state_of c.args.log.now) (slot_of c.args.tx.now) (λ p is. counts_in c.args.page p is) c.requires.may

pub save-requires-clause-named : goal.save-requires-clause-named
save-requires-clause-named g c = λ told block lt.
    let same = c.write_under.ensures.puts.rest in
    still_counted (names c.args.node.now) (names c.write_under.new.node) (state_of c.args.log.now) (state_of c.write_under.new.log) _ _ (λ i. (same i).superblock.blocks) (c.in_ok-write_under.ensures.replaced told).moves (c.requires.named told) block lt

pub returns-clause-wrote : goal.returns-clause-wrote
returns-clause-wrote g c = λ told.
    let same = c.write_under.ensures.puts.rest in
    wrote_more (names c.args.node.now) (names c.write_under.new.node) (state_of c.args.log.now) (state_of c.write_under.new.log) _ _ _ (λ i. (same i).superblock.blocks) (c.in_ok-write_under.ensures.replaced told).moves (c.write_under.ensures.wrote told) (c.save.ensures.wrote told)

pub returns-clause-turned : goal.returns-clause-turned
returns-clause-turned g c = λ told.
    let same = c.write_under.ensures.puts.rest in
    on_ok_weaker c.save.result (λ saved. list_turned c.args.page c.args.which c.args.bytes.now c.args.node.now c.write_under.new.node c.save.new.node (state_of c.args.log.now) (state_of c.write_under.new.log) (state_of c.save.new.log) _ _ _ c.requires.which
    (λ i. (same i).superblock.blocks) (c.in_ok-write_under.ensures.replaced told) c.write_under.ensures.facts c.write_under.ensures.others saved c.save.ensures.facts c.requires.blocks c.in_ok-write_under.ensures.none) (c.save.ensures.saved told)

pub returns-clause-room : goal.returns-clause-room
returns-clause-room g c = λ told.
    let a = c.in_ok-write_under.ensures.room told in
    on_ok_weaker c.save.result (λ b. omega (arith, a, b)) (c.save.ensures.room told)
