use Rattle.std.proofs.Common.{arith}
use Rattle.std.proofs.lemmas.Grind.{common_steps}
use Rattle.script_lines.proofs.Locks.{open_ok, open_fails}
use Rattle.script_lines.proofs.context.Context.open_call.Goals as goal

pub returns : goal.returns
returns c =
    open_ok c.args.self.now.placed c.args.words.now c.in_ok-label.label c.in_ok-place.place c.in_ok-kind.kind c.in_ok-label.ensures c.in_ok-place.ensures c.in_ok-kind.ensures

pub returns-in_err-kind : goal.returns-in_err-kind
returns-in_err-kind c =
    let fails =
    open_fails c.args.self.now.placed c.args.words.now c.in_ok-label.label c.in_ok-place.place c.in_err-kind.field-0.0 c.in_ok-label.ensures c.in_ok-place.ensures c.in_err-kind.ensures in
    grind (arith, common_steps, fails)
