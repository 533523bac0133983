use Rattle.std.proofs.Common.{arith}
use Rattle.disk_log.specs.Log.{state_of, slot_of}
use Rattle.disk_anode.specs.Room.{with_counts}
use Rattle.disk_anode.proofs.Putting.{may_one}
use Rattle.disk_anode.proofs.Moving.{counts_test, counts_test_of}
use Rattle.disk_anode.proofs.Saving.{counts_in}
use Rattle.disk_space.specs.Counts.{count_page}
use Rattle.disk_space.proofs.Words.{page_there}
use Rattle.disk_tests.proofs.changes.count_changed.Goals as goal

pub take-requires-clause-may : goal.take-requires-clause-may
take-requires-clause-may g c = λ page le lt.
    may_one (with_counts c.args.page) (state_of c.args.log.now) (slot_of c.args.tx.now) page c.requires.act.may
    (counts_in c.args.page page (counts_test_of page le)) lt

pub share-requires-clause-may : goal.share-requires-clause-may
share-requires-clause-may g c =
    let block = c.in-Share.block in
    let many = c.requires.act.sound.many in
    let there = page_there block (state_of c.args.log.now).superblock.blocks (omega arith) in
    may_one (with_counts c.args.page) (state_of c.args.log.now) (slot_of c.args.tx.now) (count_page block)
    c.requires.act.may (counts_in c.args.page (count_page block) (counts_test block)) (omega (arith, many, there))

pub give-requires-clause-may : goal.give-requires-clause-may
give-requires-clause-may g c =
    let block = c.in-Give.block in
    let many = c.requires.act.sound.many in
    let there = page_there block (state_of c.args.log.now).superblock.blocks (omega arith) in
    may_one (with_counts c.args.page) (state_of c.args.log.now) (slot_of c.args.tx.now) (count_page block)
    c.requires.act.may (counts_in c.args.page (count_page block) (counts_test block)) (omega (arith, many, there))
