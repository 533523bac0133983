use Rattle.std.proofs.Common.{◌+◌, ◌-◌, ℕ, List, arith, subst, sym}
use Rattle.disk_log.specs.Log.{disk_of, state_of, slot_of}
use Rattle.disk_anode.specs.Room.{are_counts, one}
use Rattle.disk_anode.specs.Node.{no_names}
use Rattle.disk_anode.specs.Changes.{Moves}
use Rattle.disk_anode.proofs.Putting.{may_one}
use Rattle.disk_anode.proofs.Moving.{counts_test, puts_count, moves_set}
use Rattle.disk_anode.proofs.Cells.{pointer_true, one_same, one_other}
use Rattle.disk_space.specs.Counts.{count_page, count_now}
use Rattle.disk_space.proofs.Words.{page_there}
use Rattle.std.specs.Prelude.{◌==◌}
use Rattle.disk_anode.proofs.blocks.share_under.Goals as goal

pub share-requires-clause-may : goal.share-requires-clause-may
share-requires-clause-may g c =
    let many = c.requires.sound.many in
    let blocks = (state_of c.args.log.now).superblock.blocks in
    let there = page_there (c.args.pointer - 1) blocks (omega arith) in
    may_one are_counts (state_of c.args.log.now) (slot_of c.args.tx.now) (count_page (c.args.pointer - 1)) c.requires.may (counts_test (c.args.pointer - 1)) (omega (arith, many, there))

pub share-requires-clause-shared : goal.share-requires-clause-shared
share-requires-clause-shared g c = λ told. c.requires.named told (pointer_true (state_of c.args.log.now).superblock.blocks c.args.pointer (omega arith) (omega arith))

pub share-requires-clause-few : goal.share-requires-clause-few
share-requires-clause-few g c = λ told. c.requires.few told (pointer_true (state_of c.args.log.now).superblock.blocks c.args.pointer (omega arith) (omega arith))

pub returns-clause-puts : goal.returns-clause-puts
returns-clause-puts g c = puts_count (c.args.pointer - 1) (slot_of c.args.tx.now) (state_of c.args.log.now) _ c.requires.sound.many (omega arith) c.requires.may c.in_ok-share.ensures.put

pub returns-clause-moves : goal.returns-clause-moves
returns-clause-moves g c = λ told.
    let old = state_of c.args.log.now in
    let image = (g.D.Disk.view (disk_of c.args.log.now)).image in
    let block = c.args.pointer - 1 in
    let mine = one_same c.args.pointer (block + 1) (omega arith) in
    let set = λ (b : ℕ). one (c.args.pointer == b + 1) in
    subst (λ (l : List ℕ). Moves no_names set old image (state_of c.share.new.log) l) (sym c.share.ensures.quiet.image)
    (moves_set block (count_now old image block + 1) (slot_of c.args.tx.now) no_names set old (state_of c.share.new.log) image c.in_ok-share.ensures.put (c.in_ok-share.ensures.count told) (omega arith)
    (omega (arith, mine)) (λ b apart. sym (one_other c.args.pointer (b + 1) (λ e. apart (omega arith)))))
