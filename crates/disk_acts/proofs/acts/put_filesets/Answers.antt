use Rattle.std.proofs.Common.{◌∙◌, ℕ, List}
use Rattle.std.specs.Prelude.{Err}
use Rattle.std.proofs.lemmas.Result.{err_from_is_err_and}
use Rattle.tree_objects.specs.declared.content.Anode.{Anode}
use Rattle.disk_log.specs.Contents.{contents_of, page_in}
use Rattle.disk_acts.specs.Acts.{act_pages, act_blocks}
use Rattle.disk_acts.proofs.Stepping.{steps_as}
use Rattle.disk_acts.proofs.Making.{holds_anodes}
use Rattle.disk_acts.proofs.Chaining.{act_less, act_may, act_then, act_failed, made_next}
use Rattle.disk_acts.proofs.acts.put_filesets.Goals as goal

pub say_server-requires-clause-may : goal.say_server-requires-clause-may
say_server-requires-clause-may g c = act_less g.D.Disk.tells g.D.Disk.view c.args.before.now.slot (act_blocks c.args.act.now) c.args.log.now c.args.tx.now c.requires.may

pub say_held-requires-clause-may : goal.say_held-requires-clause-may
say_held-requires-clause-may g c =
    act_less g.D.Disk.tells g.D.Disk.view c.args.before.now.slot (act_blocks c.args.act.now) c.say_server.new.log c.say_server.new.tx
    (act_may g.D.Disk.tells g.D.Disk.view c.args.before.now.slot (act_blocks c.args.act.now) _ c.args.log.now c.say_server.new.log c.args.tx.now c.say_server.new.tx c.requires.may c.in_ok-say_server.ensures.steps)

pub returns-in_err-say_held-clause-steps : goal.returns-in_err-say_held-clause-steps
returns-in_err-say_held-clause-steps g c =
    let p = err_from_is_err_and c.from_residual-in_err-say_held.result c.from_residual-in_err-say_held.ensures.1 in
    steps_as g.D.Disk.tells g.D.Disk.view (act_pages c.args.before.now.slot) (act_blocks c.args.act.now) c.from_residual-in_err-say_held.result (Err c.in_err-say_held.field-0.0) c.args.log.now c.say_held.new.log c.args.tx.now c.say_held.new.tx (p.1 ∙ (λ i. Err (p.2 i)))
    (act_then g.D.Disk.tells g.D.Disk.view c.args.before.now.slot (act_blocks c.args.act.now) _ _ c.args.log.now c.say_server.new.log c.say_held.new.log c.args.tx.now c.say_server.new.tx c.say_held.new.tx c.in_ok-say_server.ensures.steps
    (act_failed g.D.Disk.tells g.D.Disk.view c.args.before.now.slot (act_blocks c.args.act.now) _ c.say_server.new.log c.say_held.new.log c.say_server.new.tx c.say_held.new.tx c.in_err-say_held.ensures.steps))

pub say_held-requires-2-clause-may : goal.say_held-requires-2-clause-may
say_held-requires-2-clause-may g c =
    act_less g.D.Disk.tells g.D.Disk.view c.args.before.now.slot (act_blocks c.args.act.now) c.say_held.new.log c.say_held.new.tx
    (act_may g.D.Disk.tells g.D.Disk.view c.args.before.now.slot (act_blocks c.args.act.now) _ c.say_server.new.log c.say_held.new.log c.say_server.new.tx c.say_held.new.tx
    (act_may g.D.Disk.tells g.D.Disk.view c.args.before.now.slot (act_blocks c.args.act.now) _ c.args.log.now c.say_server.new.log c.args.tx.now c.say_server.new.tx c.requires.may c.in_ok-say_server.ensures.steps) c.in_ok-say_held.ensures.steps)

pub returns-in_err-say_held-2-clause-steps : goal.returns-in_err-say_held-2-clause-steps
returns-in_err-say_held-2-clause-steps g c =
    let p = err_from_is_err_and c.from_residual-in_err-say_held-2.result c.from_residual-in_err-say_held-2.ensures.1 in
    steps_as g.D.Disk.tells g.D.Disk.view (act_pages c.args.before.now.slot) (act_blocks c.args.act.now) c.from_residual-in_err-say_held-2.result (Err c.in_err-say_held-2.field-0.0) c.args.log.now c.say_held-2.new.log c.args.tx.now c.say_held-2.new.tx (p.1 ∙ (λ i. Err (p.2 i)))
    (act_then g.D.Disk.tells g.D.Disk.view c.args.before.now.slot (act_blocks c.args.act.now) _ _ c.args.log.now c.say_server.new.log c.say_held-2.new.log c.args.tx.now c.say_server.new.tx c.say_held-2.new.tx c.in_ok-say_server.ensures.steps
    (act_then g.D.Disk.tells g.D.Disk.view c.args.before.now.slot (act_blocks c.args.act.now) _ _ c.say_server.new.log c.say_held.new.log c.say_held-2.new.log c.say_server.new.tx c.say_held.new.tx c.say_held-2.new.tx c.in_ok-say_held.ensures.steps
    (act_failed g.D.Disk.tells g.D.Disk.view c.args.before.now.slot (act_blocks c.args.act.now) _ c.say_held.new.log c.say_held-2.new.log c.say_held.new.tx c.say_held-2.new.tx c.in_err-say_held-2.ensures.steps)))

pub put_slot-requires-clause-may : goal.put_slot-requires-clause-may
put_slot-requires-clause-may g c = record {
  made = c.requires.made;
  step =
      act_may g.D.Disk.tells g.D.Disk.view c.args.before.now.slot (act_blocks c.args.act.now) _ c.say_held.new.log c.say_held-2.new.log c.say_held.new.tx c.say_held-2.new.tx
      (act_may g.D.Disk.tells g.D.Disk.view c.args.before.now.slot (act_blocks c.args.act.now) _ c.say_server.new.log c.say_held.new.log c.say_server.new.tx c.say_held.new.tx
      (act_may g.D.Disk.tells g.D.Disk.view c.args.before.now.slot (act_blocks c.args.act.now) _ c.args.log.now c.say_server.new.log c.args.tx.now c.say_server.new.tx c.requires.may c.in_ok-say_server.ensures.steps) c.in_ok-say_held.ensures.steps)
      c.in_ok-say_held-2.ensures.steps;
  held = λ told.
      (let held = c.requires.held told in
      let has = held.2 in
      let slots : ℕ → List Anode = has.0 in
      let first = (c.in_ok-say_server.ensures.says told).anodes slots (record { held = has.1.held; each = has.1.each }) in
      let second = (c.in_ok-say_held.ensures.says told).anodes slots first in
      let third = (c.in_ok-say_held-2.ensures.says told).anodes slots second in
      (held.0, held.1, (slots, third, holds_anodes held.0 slots (λ p. page_in (contents_of g.D.Disk.view c.args.log.now) p) has.1.says)));
}

pub returns-clause-says : goal.returns-clause-says
returns-clause-says g c = λ old made apart.
    made_next g.D.Disk.tells g.D.Disk.view c.args.act.now c.args.before.now old c.args.state.now c.put_slot.result c.args.log.now c.say_server.new.log c.say_held.new.log c.say_held-2.new.log c.put_slot.new.log apart made
    c.in_ok-say_server.ensures.says c.in_ok-say_held.ensures.says c.in_ok-say_held-2.ensures.says c.put_slot.ensures.puts

pub returns-clause-steps : goal.returns-clause-steps
returns-clause-steps g c =
    act_then g.D.Disk.tells g.D.Disk.view c.args.before.now.slot (act_blocks c.args.act.now) _ c.put_slot.result c.args.log.now c.say_server.new.log c.put_slot.new.log c.args.tx.now c.say_server.new.tx c.put_slot.new.tx c.in_ok-say_server.ensures.steps
    (act_then g.D.Disk.tells g.D.Disk.view c.args.before.now.slot (act_blocks c.args.act.now) _ c.put_slot.result c.say_server.new.log c.say_held.new.log c.put_slot.new.log c.say_server.new.tx c.say_held.new.tx c.put_slot.new.tx c.in_ok-say_held.ensures.steps
    (act_then g.D.Disk.tells g.D.Disk.view c.args.before.now.slot (act_blocks c.args.act.now) _ c.put_slot.result c.say_held.new.log c.say_held-2.new.log c.put_slot.new.log c.say_held.new.tx c.say_held-2.new.tx c.put_slot.new.tx c.in_ok-say_held-2.ensures.steps c.put_slot.ensures.steps))
