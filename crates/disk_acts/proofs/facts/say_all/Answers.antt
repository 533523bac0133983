use Rattle.std.proofs.Common.{ℕ, ◌∙◌, subst, arith}
use Rattle.std.specs.Prelude.{Ok, Err}
use Rattle.std.proofs.lemmas.Result.{err_from_is_err_and}
use Rattle.disk_acts.specs.Steps.{beside_anodes, AllSaid}
use Rattle.disk_acts.proofs.Stepping.{step_after, steps_then, steps_none, steps_failed, steps_as, steps_value}
use Rattle.disk_acts.proofs.Booting.{all_none, all_more}
use Rattle.disk_acts.proofs.facts.say_all.Goals as goal

pub loop-slot-init : goal.loop-slot-init
loop-slot-init g c = record {
  says = λ told. all_none g.D.Disk.view c.args.state.now c.args.log.now;
  steps = steps_none g.D.Disk.tells g.D.Disk.view beside_anodes 0 0 c.args.log.now c.args.tx.now c.requires.may.sound;
}

pub say_held-requires-clause-may : goal.say_held-requires-clause-may
say_held-requires-clause-may g c =
    step_after g.D.Disk.tells g.D.Disk.view beside_anodes beside_anodes 0 0 0 0 c.args.log.now c.loop-slot.log c.args.tx.now c.loop-slot.tx (λ p is. is) (omega arith) c.requires.may c.loop-slot.invariant.steps

pub returns-in_err-say_held-clause-steps : goal.returns-in_err-say_held-clause-steps
returns-in_err-say_held-clause-steps g c =
    let p = err_from_is_err_and c.from_residual.result c.from_residual.ensures.1 in
    steps_as g.D.Disk.tells g.D.Disk.view beside_anodes 0 c.from_residual.result (Err c.in_err-say_held.field-0.0) c.args.log.now c.say_held.new.log c.args.tx.now c.say_held.new.tx (p.1 ∙ (λ i. Err (p.2 i)))
    (steps_then g.D.Disk.tells g.D.Disk.view beside_anodes beside_anodes beside_anodes 0 0 0 0 _ c.args.log.now c.loop-slot.log c.say_held.new.log c.args.tx.now c.loop-slot.tx c.say_held.new.tx (λ p is. is) (λ p is. is) (omega arith) c.loop-slot.invariant.steps
    (steps_failed g.D.Disk.tells g.D.Disk.view beside_anodes beside_anodes 0 0 _ c.loop-slot.log c.say_held.new.log c.loop-slot.tx c.say_held.new.tx (λ p is. is) c.in_err-say_held.ensures.steps))

pub loop-slot-preserved : goal.loop-slot-preserved
loop-slot-preserved g c = record {
  says = λ told. all_more g.D.Disk.view c.loop-slot.slot c.args.state.now c.args.log.now c.loop-slot.log c.say_held.new.log c.loop-slot-test.true (c.loop-slot.invariant.says told) (c.in_ok-say_held.ensures.says told);
  steps = steps_then g.D.Disk.tells g.D.Disk.view beside_anodes beside_anodes beside_anodes 0 0 0 0 (Ok 0) c.args.log.now c.loop-slot.log c.say_held.new.log c.args.tx.now c.loop-slot.tx c.say_held.new.tx (λ p is. is) (λ p is. is) (omega arith) c.loop-slot.invariant.steps
      (steps_value g.D.Disk.tells g.D.Disk.view beside_anodes 0 _ 0 c.loop-slot.log c.say_held.new.log c.loop-slot.tx c.say_held.new.tx c.in_ok-say_held.ensures.steps);
}

pub returns-clause-says : goal.returns-clause-says
returns-clause-says g c = λ told.
    (let past = c.loop-slot-test.false in let few = c.loop-slot.auto.slot-end in
    subst (λ (n : ℕ). AllSaid g.D.Disk.view n c.args.state.now c.args.log.now c.loop-slot.log) (omega (arith, past, few)) (c.loop-slot.invariant.says told))

pub returns-clause-steps : goal.returns-clause-steps
returns-clause-steps g c = steps_value g.D.Disk.tells g.D.Disk.view beside_anodes 0 0 _ c.args.log.now c.loop-slot.log c.args.tx.now c.loop-slot.tx c.loop-slot.invariant.steps
