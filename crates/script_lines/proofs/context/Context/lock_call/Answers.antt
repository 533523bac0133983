use Rattle.std.proofs.Common.{arith}
use Rattle.std.proofs.lemmas.Grind.{common_steps}
use Rattle.script_lines.proofs.Locks.{lock_ok, lock_fails}
use Rattle.script_lines.proofs.context.Context.lock_call.Goals as goal

pub returns : goal.returns
returns c =
    lock_ok c.args.self.now.placed c.args.words.now c.in_ok-label.label c.in_ok-place.place c.in_ok-part.part c.in_ok-label.ensures c.in_ok-place.ensures c.in_ok-part.ensures

pub returns-in_err-part : goal.returns-in_err-part
returns-in_err-part c =
    let fails =
    lock_fails c.args.self.now.placed c.args.words.now c.in_ok-label.label c.in_ok-place.place c.in_err-part.field-0.0 c.in_ok-label.ensures c.in_ok-place.ensures c.in_err-part.ensures in
    grind (arith, common_steps, fails)
