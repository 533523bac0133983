use Rattle.std.proofs.Common.{◌∙◌, ap}
use Rattle.server_tables.specs.Updates.{unqueued}
use Rattle.server_tables.specs.declared.pending.Pending.{Pending}
use Rattle.server_decides.proofs.Parts.{at_place_is, left_out_so}
use Rattle.server_decides.proofs.sending.take_out.Goals as goal

pub returns-clause-host : goal.returns-clause-host
returns-clause-host c p place = ap (λ (q : Pending). q.wanted.host)
    (at_place_is c.args.tables.now.pending c.args.at c.unqueue-pending.result p c.unqueue-pending.ensures.value place)

pub returns-clause-tables : goal.returns-clause-tables
returns-clause-tables c p place =
    c.unqueue-pending.ensures.after ∙ ap (λ (q : Pending). unqueued c.args.tables.now c.args.at q.number)
    (at_place_is c.args.tables.now.pending c.args.at c.unqueue-pending.result p c.unqueue-pending.ensures.value place)

pub returns-clause-left : goal.returns-clause-left
returns-clause-left c = left_out_so c.args.tables.now c.unqueue-pending.new.self c.args.at
    c.unqueue-pending.result.number
    c.unqueue-pending.ensures.after
