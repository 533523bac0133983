use Rattle.std.proofs.Common.{◌≡◌, ◌∙◌, ap, sym}
use Rattle.service_run.proofs.Waits.{in_lines, in_setup}
use Rattle.service_run.proofs.lines.last_of.Goals as goal
use Rattle.service_run.specs.Lines.{last_gone}

pub returns-in-Some : goal.returns-in-Some
returns-in-Some c =
    sym (in_lines c.args.node c.args.next c.args.script.now.setup c.args.script.now.lines c.in-Some.number
    (ap (λ l. last_gone c.args.node c.args.next l) (sym c.as_slice.ensures) ∙ sym c.in-Some.ensures))

pub returns-in-None : goal.returns-in-None
returns-in-None c =
    c.last_gone-in-None.ensures ∙ ap (λ l. last_gone c.args.node c.args.next l) c.as_slice-in-None.ensures ∙ sym
    (in_setup c.args.node c.args.next c.args.script.now.setup c.args.script.now.lines
    (ap (λ l. last_gone c.args.node c.args.next l) (sym c.as_slice.ensures) ∙ sym c.in-None.ensures))
