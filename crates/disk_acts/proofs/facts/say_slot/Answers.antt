use Rattle.std.proofs.Common.{◌+◌, ◌*◌, ◌∙◌, arith}
use Rattle.std.specs.Prelude.{Err}
use Rattle.std.proofs.lemmas.Result.{err_from_is_err_and}
use Rattle.disk_anode.specs.Room.{is_page}
use Rattle.disk_acts.specs.Steps.{beside_anodes}
use Rattle.disk_acts.proofs.Stepping.{step_less, step_after, steps_then, steps_failed, steps_as, page_beside, header_none, numbers_none}
use Rattle.disk_acts.proofs.Saying.{slot_said}
use Rattle.disk_acts.proofs.facts.say_slot.Goals as goal

pub say_header-requires-clause-may : goal.say_header-requires-clause-may
say_header-requires-clause-may g c =
    step_less g.D.Disk.tells g.D.Disk.view (is_page (2 + 66 * c.args.slot)) beside_anodes 0 0 c.args.log.now c.args.tx.now (λ p is. page_beside (2 + 66 * c.args.slot) p (header_none c.args.slot) is) (omega arith) c.requires.may

pub returns-in_err-say_header-clause-steps : goal.returns-in_err-say_header-clause-steps
returns-in_err-say_header-clause-steps g c =
    let p = err_from_is_err_and c.from_residual.result c.from_residual.ensures.1 in
    steps_as g.D.Disk.tells g.D.Disk.view beside_anodes 0 c.from_residual.result (Err c.in_err-say_header.field-0.0) c.args.log.now c.say_header.new.log c.args.tx.now c.say_header.new.tx (p.1 ∙ (λ i. Err (p.2 i)))
    (steps_failed g.D.Disk.tells g.D.Disk.view (is_page (2 + 66 * c.args.slot)) beside_anodes 0 0 _ c.args.log.now c.say_header.new.log c.args.tx.now c.say_header.new.tx (λ p is. page_beside (2 + 66 * c.args.slot) p (header_none c.args.slot) is) c.in_err-say_header.ensures.steps)

pub say_numbers-requires-clause-may : goal.say_numbers-requires-clause-may
say_numbers-requires-clause-may g c =
    step_less g.D.Disk.tells g.D.Disk.view (is_page (3 + 66 * c.args.slot)) beside_anodes 0 0 c.say_header.new.log c.say_header.new.tx (λ p is. page_beside (3 + 66 * c.args.slot) p (numbers_none c.args.slot) is) (omega arith)
    (step_after g.D.Disk.tells g.D.Disk.view (is_page (2 + 66 * c.args.slot)) beside_anodes 0 0 0 _ c.args.log.now c.say_header.new.log c.args.tx.now c.say_header.new.tx (λ p is. page_beside (2 + 66 * c.args.slot) p (header_none c.args.slot) is) (omega arith) c.requires.may c.in_ok-say_header.ensures.steps)

pub returns-clause-says : goal.returns-clause-says
returns-clause-says g c =
    slot_said g.D.Disk.tells g.D.Disk.view c.args.slot c.args.holding.now c.in-Ok.header c.as_slice.result.now c.say_numbers.result c.args.log.now c.say_header.new.log c.say_numbers.new.log
    c.requires.slot c.in-Ok.ensures c.as_slice.ensures c.in_ok-say_header.ensures.says c.say_numbers.ensures.says

pub returns-clause-steps : goal.returns-clause-steps
returns-clause-steps g c =
    steps_then g.D.Disk.tells g.D.Disk.view (is_page (2 + 66 * c.args.slot)) (is_page (3 + 66 * c.args.slot)) beside_anodes 0 0 0 _ c.say_numbers.result c.args.log.now c.say_header.new.log c.say_numbers.new.log c.args.tx.now c.say_header.new.tx c.say_numbers.new.tx
    (λ p is. page_beside (2 + 66 * c.args.slot) p (header_none c.args.slot) is) (λ p is. page_beside (3 + 66 * c.args.slot) p (numbers_none c.args.slot) is) (omega arith) c.in_ok-say_header.ensures.steps c.say_numbers.ensures.steps
