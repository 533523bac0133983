use Rattle.std.proofs.Common.{◌<◌, ℕ, subst, sym, arith}
use Rattle.std.specs.Prelude.{Option, IfSome}
use Rattle.disk_log.specs.Log.{state_of, slot_of}
use Rattle.disk_log.specs.State.{State, MayPut}
use Rattle.disk_space.specs.Counts.{count_page}
use Rattle.disk_space.proofs.Words.{page_there}
use Rattle.disk_space.proofs.space.take.Goals as goal

pub set_count-requires-clause-may : goal.set_count-requires-clause-may
set_count-requires-clause-may g c =
    let many = c.requires.sound.many in
    let blocks = (state_of c.args.log.now).superblock.blocks in
    let within : c.in-Some.block < blocks = subst (λ (o : Option ℕ). IfSome o (λ (block : ℕ). block < blocks)) c.in-Some.is c.in_ok-block.ensures.within in
    let there = page_there c.in-Some.block blocks within in
    subst (λ (state : State). MayPut state (slot_of c.args.tx.now) (count_page c.in-Some.block)) (sym c.find.ensures.state) (c.requires.may (count_page c.in-Some.block) (omega arith) (omega (arith, many, there)))
