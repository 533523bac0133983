use Rattle.std.proofs.Common.{◌≡◌, ap}
use Rattle.host_manager.specs.Spoken.{answered_step, tables_of}
use Rattle.host_node.proofs.Waiting.{if_same}
use Rattle.host_node.specs.Between.{step_of}
use Rattle.host_node.specs.declared.between.Entry.{Entry}
use Rattle.host_node.proofs.between.said_step.Goals as goal

pub returns-in-Ok : goal.returns-in-Ok
returns-in-Ok c = λ said is entry_is reply_is.
    let host = (tables_of c.args.manager.now).host in
    let found = c.in-Ok.ensures said is (ap (λ (e : Entry). e.place) entry_is) in
    let k_is : c.args.entry.k ≡ said.k = ap (λ (e : Entry). e.k) entry_is in
    if_same c.answered_step.result (answered_step host c.in-Ok.line c.args.entry.k c.in-Ok.call c.args.reply)
    (step_of host said) (λ i. answered_step host (found.0 i) (k_is i) (found.1 i) (reply_is i)) c.answered_step.ensures
