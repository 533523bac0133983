use Rattle.std.proofs.Common.{◌∙◌, refl, ap, arith, length}
use Rattle.std.specs.Prelude.{Err}
use Rattle.std.proofs.lemmas.Result.{err_from_is_err_and}
use Rattle.disk_anode.specs.Room.{is_page}
use Rattle.disk_acts.specs.Steps.{beside_anodes}
use Rattle.disk_acts.proofs.Stepping.{step_less, step_after, steps_then, steps_failed, steps_as, page_beside}
use Rattle.disk_acts.proofs.Saying.{server_said}
use Rattle.disk_acts.proofs.facts.say_server.Goals as goal

pub say_facts-requires-clause-may : goal.say_facts-requires-clause-may
say_facts-requires-clause-may g c = step_less g.D.Disk.tells g.D.Disk.view (is_page 0) beside_anodes 0 0 c.args.log.now c.args.tx.now (λ p is. page_beside 0 p refl is) (omega arith) c.requires.may

pub returns-in_err-say_facts-clause-steps : goal.returns-in_err-say_facts-clause-steps
returns-in_err-say_facts-clause-steps g c =
    let p = err_from_is_err_and c.from_residual.result c.from_residual.ensures.1 in
    steps_as g.D.Disk.tells g.D.Disk.view beside_anodes 0 c.from_residual.result (Err c.in_err-say_facts.field-0.0) c.args.log.now c.say_facts.new.log c.args.tx.now c.say_facts.new.tx (p.1 ∙ (λ i. Err (p.2 i)))
    (steps_failed g.D.Disk.tells g.D.Disk.view (is_page 0) beside_anodes 0 0 _ c.args.log.now c.say_facts.new.log c.args.tx.now c.say_facts.new.tx (λ p is. page_beside 0 p refl is) c.in_err-say_facts.ensures.steps)

pub say_own_numbers-requires-clause-may : goal.say_own_numbers-requires-clause-may
say_own_numbers-requires-clause-may g c =
    step_less g.D.Disk.tells g.D.Disk.view (is_page 1) beside_anodes 0 0 c.say_facts.new.log c.say_facts.new.tx (λ p is. page_beside 1 p refl is) (omega arith)
    (step_after g.D.Disk.tells g.D.Disk.view (is_page 0) beside_anodes 0 0 0 _ c.args.log.now c.say_facts.new.log c.args.tx.now c.say_facts.new.tx (λ p is. page_beside 0 p refl is) (omega arith) c.requires.may c.in_ok-say_facts.ensures.steps)

pub say_own_numbers-requires-clause-hosts : goal.say_own_numbers-requires-clause-hosts
say_own_numbers-requires-clause-hosts g c = let count = c.requires.tables.limits.records.count in let same = ap length c.as_slice.ensures in omega (arith, count, same)

pub returns-clause-says : goal.returns-clause-says
returns-clause-says g c =
    server_said g.D.Disk.tells g.D.Disk.view c.args.state.now c.facts_of-facts.result c.as_slice.result.now c.say_own_numbers.result c.args.log.now c.say_facts.new.log c.say_own_numbers.new.log
    c.facts_of-facts.ensures c.as_slice.ensures c.in_ok-say_facts.ensures.says c.say_own_numbers.ensures.says

pub returns-clause-steps : goal.returns-clause-steps
returns-clause-steps g c =
    steps_then g.D.Disk.tells g.D.Disk.view (is_page 0) (is_page 1) beside_anodes 0 0 0 _ c.say_own_numbers.result c.args.log.now c.say_facts.new.log c.say_own_numbers.new.log c.args.tx.now c.say_facts.new.tx c.say_own_numbers.new.tx
    (λ p is. page_beside 0 p refl is) (λ p is. page_beside 1 p refl is) (omega arith) c.in_ok-say_facts.ensures.steps c.say_own_numbers.ensures.steps
