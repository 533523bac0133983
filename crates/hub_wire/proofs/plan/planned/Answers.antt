use Rattle.std.proofs.Common.{Some, ap, ◌∙◌}
use Rattle.std.specs.List.{find}
use Rattle.hub_wire.specs.Plans.{is_at}
use Rattle.hub_wire.proofs.Lines.{planned_found, planned_none}
use Rattle.hub_wire.proofs.plan.planned.Goals as goal

pub returns-in_ok-planned_fate-in-Some : goal.returns-in_ok-planned_fate-in-Some
returns-in_ok-planned_fate-in-Some c =
    ap Some c.in_ok-planned_fate-in-Some.ensures
    ∙ planned_found c.args.message.now c.args.lines.now c.in-Some.waiting.now
    (c.in-Some.ensures ∙ ap (find (is_at c.args.message.now)) c.as_slice.ensures)

pub returns-in-None : goal.returns-in-None
returns-in-None c =
    planned_none c.args.message.now c.args.lines.now
    (c.in-None.ensures ∙ ap (find (is_at c.args.message.now)) c.as_slice.ensures)
