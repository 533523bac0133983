use Rattle.std.proofs.Common.{◌≡◌, ◌∙◌, ℕ, List, arith}
use Rattle.tree_objects.specs.declared.content.Anode.{Anode}
use Rattle.store_acts.specs.declared.act.Act.TheVariants.{Do}
use Rattle.disk_fileset.specs.Slots.{AllVacant}
use Rattle.disk_acts.specs.Acts.{act_pages, act_blocks}
use Rattle.disk_acts.proofs.Stepping.{slot_steps, steps_wider}
use Rattle.disk_acts.proofs.Landing.{may_slot, puts_slot, cloned_held}
use Rattle.disk_acts.proofs.Chaining.{low_slot}
use Rattle.disk_acts.proofs.acts.copy_held.Goals as goal

pub copy_slot-requires-clause-may : goal.copy_slot-requires-clause-may
copy_slot-requires-clause-may g c =
    let low = low_slot c.args.state.now c.args.before.now.slot c.args.holding.now c.requires.tables c.requires.held in
    let blocks : act_blocks c.args.act.now ≡ 144 = λ i. act_blocks (c.in-Do.is i) in
    may_slot g.D.Disk.tells g.D.Disk.view c.args.act.now c.args.before.now c.args.state.now (AllVacant c.args.before.now.slot) 64 c.args.log.now c.args.tx.now (omega (arith, blocks))
    (λ old slots made keeps holds. (cloned_held g.D.Disk.view c.args.act.now c.args.before.now c.args.state.now c.args.log.now low c.if-before-ge-FILESETS_MAX.false c.args.holding.now c.requires.held
    c.in-Do.host c.in-Do.number c.in-CloneFileset.server c.in-CloneFileset.fileset c.in-CloneFileset.new (c.in-Do.is ∙ (λ i. Do c.in-Do.host c.in-Do.number (c.in-CloneFileset.is i))) old slots made keeps holds).0) c.requires.may

pub returns-clause-puts : goal.returns-clause-puts
returns-clause-puts g c =
    let low = low_slot c.args.state.now c.args.before.now.slot c.args.holding.now c.requires.tables c.requires.held in
    puts_slot g.D.Disk.tells g.D.Disk.view c.args.act.now c.args.before.now c.args.state.now c.args.holding.now (AllVacant c.args.before.now.slot)
    (λ (slots : ℕ → List Anode). slots c.args.before.now.source) 64 c.copy_slot.result c.args.log.now c.copy_slot.new.log c.args.tx.now c.copy_slot.new.tx
    (λ old slots made keeps holds. cloned_held g.D.Disk.view c.args.act.now c.args.before.now c.args.state.now c.args.log.now low c.if-before-ge-FILESETS_MAX.false c.args.holding.now c.requires.held
    c.in-Do.host c.in-Do.number c.in-CloneFileset.server c.in-CloneFileset.fileset c.in-CloneFileset.new (c.in-Do.is ∙ (λ i. Do c.in-Do.host c.in-Do.number (c.in-CloneFileset.is i))) old slots made keeps holds)
    c.copy_slot.ensures.kept c.copy_slot.ensures.changes

pub returns-clause-steps : goal.returns-clause-steps
returns-clause-steps g c =
    let blocks : act_blocks c.args.act.now ≡ 144 = λ i. act_blocks (c.in-Do.is i) in
    steps_wider g.D.Disk.tells g.D.Disk.view (act_pages c.args.before.now.slot) (act_pages c.args.before.now.slot) 64 (act_blocks c.args.act.now) c.copy_slot.result c.args.log.now c.copy_slot.new.log c.args.tx.now c.copy_slot.new.tx
    (λ p is. is) (omega (arith, blocks))
    (slot_steps g.D.Disk.tells g.D.Disk.view c.args.before.now.slot 64 c.copy_slot.result c.args.log.now c.copy_slot.new.log c.args.tx.now c.copy_slot.new.tx c.copy_slot.ensures.changes)
