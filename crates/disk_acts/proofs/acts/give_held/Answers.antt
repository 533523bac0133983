use Rattle.std.proofs.Common.{◌≡◌, ◌-◌, List, sym, subst, arith}
use Rattle.std.specs.Prelude.{Some}
use Rattle.base_types.specs.Lists.{changed_at}
use Rattle.tree_calls.specs.declared.part.Piece.{Piece}
use Rattle.tree_objects.specs.Changes.{anode_changed}
use Rattle.store_state.specs.Giving.{content_given}
use Rattle.disk_fileset.specs.Slots.{IsFile}
use Rattle.disk_records.specs.Stored.{AreHeld}
use Rattle.disk_acts.specs.Acts.{act_pages, act_blocks}
use Rattle.disk_acts.proofs.Stepping.{slot_steps, steps_wider}
use Rattle.disk_acts.proofs.Landing.{may_slot, puts_slot, puts_none, given_none, given_file, given_held}
use Rattle.disk_acts.proofs.Chaining.{low_slot}
use Rattle.disk_acts.proofs.acts.give_held.Goals as goal

pub returns-then-not-before-clause-puts : goal.returns-then-not-before-clause-puts
returns-then-not-before-clause-puts g c =
    let low = low_slot c.args.state.now c.args.before.now.slot c.args.holding.now c.requires.tables c.requires.held in
    puts_none {T = Unit} g.D.Disk.tells g.D.Disk.view c.args.act.now c.args.before.now c.args.state.now (Some c.args.holding.now) _ c.args.log.now
    (λ old slots h made keeps holds e. given_none g.D.Disk.view c.args.act.now c.args.before.now c.args.state.now c.args.log.now low c.args.holding.now c.requires.held
    c.in-Give.host c.in-Give.number c.in-Give.fid c.in-Give.pieces c.in-Give.length c.in-Give.is c.if-not-before.true old slots h made keeps holds e)

pub give-requires-clause-slot : goal.give-requires-clause-slot
give-requires-clause-slot g c = low_slot c.args.state.now c.args.before.now.slot c.args.holding.now c.requires.tables c.requires.held

pub give-requires-clause-may : goal.give-requires-clause-may
give-requires-clause-may g c =
    let low = low_slot c.args.state.now c.args.before.now.slot c.args.holding.now c.requires.tables c.requires.held in
    let blocks : act_blocks c.args.act.now ≡ 68 = λ i. act_blocks (c.in-Give.is i) in
    may_slot g.D.Disk.tells g.D.Disk.view c.args.act.now c.args.before.now c.args.state.now (IsFile c.args.before.now.slot c.in-Give.fid.anode) 68 c.args.log.now c.args.tx.now (omega (arith, blocks))
    (λ old slots made keeps holds. given_file g.D.Disk.view c.args.act.now c.args.before.now c.args.state.now c.args.log.now low c.args.holding.now c.requires.held
    c.in-Give.host c.in-Give.number c.in-Give.fid c.in-Give.pieces c.in-Give.length c.in-Give.is c.if-not-before.false old slots made keeps holds) c.requires.may

pub returns-clause-puts : goal.returns-clause-puts
returns-clause-puts g c =
    let low = low_slot c.args.state.now c.args.before.now.slot c.args.holding.now c.requires.tables c.requires.held in
    puts_slot g.D.Disk.tells g.D.Disk.view c.args.act.now c.args.before.now c.args.state.now c.args.holding.now (IsFile c.args.before.now.slot c.in-Give.fid.anode)
    (λ slots. changed_at (slots c.args.before.now.slot) (c.in-Give.fid.anode - 1) (anode_changed (content_given c.as_slice.result.now c.in-Give.length))) 68 c.give.result c.args.log.now c.give.new.log c.args.tx.now c.give.new.tx
    (λ old slots made keeps holds.
    subst (λ (pieces : List Piece). IsFile c.args.before.now.slot c.in-Give.fid.anode slots × AreHeld c.args.holding.now (changed_at (slots c.args.before.now.slot) (c.in-Give.fid.anode - 1) (anode_changed (content_given pieces c.in-Give.length))))
    (sym c.as_slice.ensures)
    (given_held g.D.Disk.view c.args.act.now c.args.before.now c.args.state.now c.args.log.now low c.args.holding.now c.requires.held
    c.in-Give.host c.in-Give.number c.in-Give.fid c.in-Give.pieces c.in-Give.length c.in-Give.is c.if-not-before.false old slots made keeps holds))
    c.give.ensures.kept c.give.ensures.changes

pub returns-clause-steps : goal.returns-clause-steps
returns-clause-steps g c =
    let blocks : act_blocks c.args.act.now ≡ 68 = λ i. act_blocks (c.in-Give.is i) in
    steps_wider g.D.Disk.tells g.D.Disk.view (act_pages c.args.before.now.slot) (act_pages c.args.before.now.slot) 68 (act_blocks c.args.act.now) c.give.result c.args.log.now c.give.new.log c.args.tx.now c.give.new.tx
    (λ p is. is) (omega (arith, blocks))
    (slot_steps g.D.Disk.tells g.D.Disk.view c.args.before.now.slot 68 c.give.result c.args.log.now c.give.new.log c.args.tx.now c.give.new.tx c.give.ensures.changes)
