use Rattle.std.proofs.Common.{subst, sym}
use Rattle.std.specs.Prelude.{IfOk}
use Rattle.host_manager.specs.Spoken.{tables_of}
use Rattle.host_node.proofs.Doing.{calls_it, stops_it}
use Rattle.host_node.specs.Doing.{DoesLine}
use Rattle.script_lines.specs.declared.script.Deed.{Deed}
use Rattle.host_node.proofs.host.deed_step.Goals as goal

pub returns-in-Call : goal.returns-in-Call
returns-in-Call c =
    subst (λ (d : Deed). IfOk c.call.result (λ s.
    DoesLine (tables_of c.args.manager.now) (tables_of c.call.new.self) c.args.line.now.number d s))
    (sym c.in-Call.is)
    (calls_it c.call.result (tables_of c.args.manager.now) (tables_of c.call.new.self) c.args.line.now.number
    c.in-Call.call c.call.ensures.right c.call.ensures.own c.call.ensures.due)

pub returns-in-Stop : goal.returns-in-Stop
returns-in-Stop c =
    subst (λ (d : Deed). IfOk c.stop.result (λ s.
    DoesLine (tables_of c.args.manager.now) (tables_of c.stop.new.self) c.args.line.now.number d s))
    (sym c.in-Stop.is)
    (stops_it c.stop.result (tables_of c.args.manager.now) (tables_of c.stop.new.self) c.args.line.now.number
    c.stop.ensures.right c.stop.ensures.own c.stop.ensures.due)

pub returns-in-Raise : goal.returns-in-Raise
returns-in-Raise c =
    subst (λ (d : Deed).
    DoesLine (tables_of c.args.manager.now) (tables_of c.args.manager.now) c.args.line.now.number d c.raise.result)
    (sym c.in-Raise.is)
    (record { right = c.raise.ensures.right; own = c.raise.ensures.own; due = c.raise.ensures.due })

pub returns-in-Await : goal.returns-in-Await
returns-in-Await c =
    subst (λ (d : Deed).
    DoesLine (tables_of c.args.manager.now) (tables_of c.args.manager.now) c.args.line.now.number d c.wait_for.result)
    (sym c.in-Await.is)
    (record { right = c.wait_for.ensures.right; own = c.wait_for.ensures.own; due = c.wait_for.ensures.due })
