use Rattle.std.proofs.Common.{◌≡◌, ◌≤◌, ◌∙◌, length, sym, arith}
use Rattle.std.specs.Prelude.{true}
use Rattle.disk_acts.specs.Acts.{act_pages, act_blocks}
use Rattle.disk_acts.specs.Anodes.{AreAt, replaced}
use Rattle.disk_acts.specs.Touched.{renews}
use Rattle.disk_acts.proofs.Stepping.{slot_steps, steps_wider}
use Rattle.disk_acts.proofs.Landing.{may_slot, puts_slot, renews_blocks, at_slot, renewed_held}
use Rattle.disk_acts.proofs.Chaining.{low_slot}
use Rattle.disk_acts.proofs.acts.renew_held.Goals as goal

pub put_anodes-requires-clause-may : goal.put_anodes-requires-clause-may
put_anodes-requires-clause-may g c =
    let low = low_slot c.args.state.now c.args.before.now.slot c.args.holding.now c.requires.tables c.requires.held in
    let on : renews c.args.act.now ≡ true = sym c.renews.ensures ∙ c.if-not-renews.false in
    let blocks = renews_blocks c.args.act.now on in
    may_slot g.D.Disk.tells g.D.Disk.view c.args.act.now c.args.before.now c.args.state.now (AreAt c.args.before.now.slot c.args.before.now.anodes c.args.holding.now.fileset.anodes) 144 c.args.log.now c.args.tx.now (omega (arith, blocks))
    (λ old slots made keeps holds. at_slot g.D.Disk.view c.args.act.now c.args.before.now c.args.state.now c.args.log.now low c.args.holding.now c.requires.held on old slots made keeps holds) c.requires.may

pub returns-clause-puts : goal.returns-clause-puts
returns-clause-puts g c =
    let low = low_slot c.args.state.now c.args.before.now.slot c.args.holding.now c.requires.tables c.requires.held in
    let on : renews c.args.act.now ≡ true = sym c.renews.ensures ∙ c.if-not-renews.false in
    let few : length c.args.holding.now.fileset.anodes ≤ 64 = (let e = c.len.ensures in let le = c.if-len.false in omega (arith, e, le)) in
    puts_slot g.D.Disk.tells g.D.Disk.view c.args.act.now c.args.before.now c.args.state.now c.args.holding.now (AreAt c.args.before.now.slot c.args.before.now.anodes c.args.holding.now.fileset.anodes)
    (λ slots. replaced c.args.holding.now.fileset.anodes (slots c.args.before.now.slot)) 144 c.put_anodes.result c.args.log.now c.put_anodes.new.log c.args.tx.now c.put_anodes.new.tx
    (λ old slots made keeps holds. renewed_held g.D.Disk.view c.args.act.now c.args.before.now c.args.state.now c.args.log.now low c.args.holding.now c.requires.held on few old slots made keeps holds)
    c.put_anodes.ensures.kept c.put_anodes.ensures.changes

pub returns-clause-steps : goal.returns-clause-steps
returns-clause-steps g c =
    let on : renews c.args.act.now ≡ true = sym c.renews.ensures ∙ c.if-not-renews.false in
    let blocks = renews_blocks c.args.act.now on in
    steps_wider g.D.Disk.tells g.D.Disk.view (act_pages c.args.before.now.slot) (act_pages c.args.before.now.slot) 144 (act_blocks c.args.act.now) c.put_anodes.result c.args.log.now c.put_anodes.new.log c.args.tx.now c.put_anodes.new.tx
    (λ p is. is) (omega (arith, blocks))
    (slot_steps g.D.Disk.tells g.D.Disk.view c.args.before.now.slot 144 c.put_anodes.result c.args.log.now c.put_anodes.new.log c.args.tx.now c.put_anodes.new.tx c.put_anodes.ensures.changes)
