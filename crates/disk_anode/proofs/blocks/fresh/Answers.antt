use Rattle.std.proofs.Common.{arith, subst, sym}
use Rattle.disk_log.specs.Log.{disk_of, state_of, slot_of}
use Rattle.disk_log.specs.State.{State}
use Rattle.disk_anode.specs.Room.{are_counts, PutsPages}
use Rattle.disk_anode.proofs.Putting.{may_one}
use Rattle.disk_anode.proofs.Moving.{puts_count, counts_test_of}
use Rattle.disk_anode.proofs.Taking.{wrote_free, taken}
use Rattle.std.proofs.lemmas.Result.{err_from_is_err_and}
use Rattle.disk_space.specs.Counts.{AreUsed}
use Rattle.disk_anode.proofs.Free.{free_taken, none_free, other_fault}
use Rattle.disk_anode.proofs.blocks.fresh.Goals as goal

pub take-requires-clause-may : goal.take-requires-clause-may
take-requires-clause-may g c = λ page le lt. may_one are_counts (state_of c.args.log.now) (slot_of c.args.tx.now) page c.requires.may (counts_test_of page le) lt

pub returns-in_err-write_block-clause-puts : goal.returns-in_err-write_block-clause-puts
returns-in_err-write_block-clause-puts g c = subst (λ (s : State). PutsPages are_counts (slot_of c.args.tx.now) (state_of c.args.log.now) s) (sym c.write_block.ensures.state)
    (puts_count c.in_ok-block.block (slot_of c.args.tx.now) (state_of c.args.log.now) (state_of c.take.new.log) c.requires.sound.many c.in_ok-block.ensures.within c.requires.may c.in_ok-block.ensures.put)

pub returns-clause-puts : goal.returns-clause-puts
returns-clause-puts g c = subst (λ (s : State). PutsPages are_counts (slot_of c.args.tx.now) (state_of c.args.log.now) s) (sym c.write_block.ensures.state)
    (puts_count c.in_ok-block.block (slot_of c.args.tx.now) (state_of c.args.log.now) (state_of c.take.new.log) c.requires.sound.many c.in_ok-block.ensures.within c.requires.may c.in_ok-block.ensures.put)

pub returns-in_err-write_block-clause-wrote : goal.returns-in_err-write_block-clause-wrote
returns-in_err-write_block-clause-wrote g c = λ told.
    wrote_free _ _ (state_of c.args.log.now) (state_of c.take.new.log) (state_of c.write_block.new.self) (g.D.Disk.view (disk_of c.args.log.now)) (g.D.Disk.view (disk_of c.take.new.log)) (g.D.Disk.view (disk_of c.write_block.new.self))
    c.requires.sound.many c.in_ok-block.ensures.put (c.in_ok-block.ensures.lowest told).0 c.take.ensures.quiet c.write_block.ensures.state (c.write_block.ensures.torn told) c.write_block.ensures.crash

pub returns-clause-wrote : goal.returns-clause-wrote
returns-clause-wrote g c = λ told.
    wrote_free _ _ (state_of c.args.log.now) (state_of c.take.new.log) (state_of c.write_block.new.self) (g.D.Disk.view (disk_of c.args.log.now)) (g.D.Disk.view (disk_of c.take.new.log)) (g.D.Disk.view (disk_of c.write_block.new.self))
    c.requires.sound.many c.in_ok-block.ensures.put (c.in_ok-block.ensures.lowest told).0 c.take.ensures.quiet c.write_block.ensures.state (c.write_block.ensures.torn told) c.write_block.ensures.crash

pub returns-clause-taken : goal.returns-clause-taken
returns-clause-taken g c = λ told.
    taken _ _ (state_of c.args.log.now) (state_of c.take.new.log) (state_of c.write_block.new.self) (g.D.Disk.view (disk_of c.args.log.now)) (g.D.Disk.view (disk_of c.take.new.log)) (g.D.Disk.view (disk_of c.write_block.new.self))
    c.requires.sound.many c.in_ok-block.ensures.put (c.in_ok-block.ensures.lowest told).0 c.take.ensures.quiet c.write_block.ensures.state (c.write_block.ensures.torn told)
    c.args.bytes.now (omega arith) (c.in_ok-block.ensures.count told) (c.in_ok-write_block.ensures.written told) (c.write_block.ensures.pages told)

pub returns-clause-room : goal.returns-clause-room
returns-clause-room g c = λ told. let same = (returns-clause-puts g c).rest in free_taken c.in_ok-block.block c.args.bytes.now (state_of c.args.log.now) (state_of c.write_block.new.self) _ _ (λ i. (same i).superblock.blocks) (returns-clause-taken g c told)

pub returns-in_err-block-clause-only : goal.returns-in_err-block-clause-only
returns-in_err-block-clause-only g c =
    let p = err_from_is_err_and c.from_residual.result c.from_residual.ensures.1 in
    let none = λ (used : g.D.Disk.tells → AreUsed (state_of c.args.log.now) (g.D.Disk.view (disk_of c.args.log.now)).image 0 (state_of c.args.log.now).superblock.blocks) (told : g.D.Disk.tells).
    (let no : ⊥ = (let e = none_free (state_of c.args.log.now) (g.D.Disk.view (disk_of c.args.log.now)).image (used told) in let some = c.requires.room told in omega (arith, e, some)) in no) in
    rw (p.1, p.2) (other_fault none c.in_err-block.field-0.0 _ _ c.in_err-block.ensures.only)
