use Rattle.std.proofs.Common.{sym, subst}
use Rattle.std.specs.Prelude.{IfOk}
use Rattle.server_tables.specs.declared.pending.Pending.{Pending}
use Rattle.server_decides.specs.Sending.{IsSending}
use Rattle.server_decides.proofs.Parts.{at_place_is}
use Rattle.server_decides.proofs.Served.{came_at}
use Rattle.server_decides.proofs.sending.sending_at.Goals as goal

pub sending_of-requires-clause-came : goal.sending_of-requires-clause-came
sending_of-requires-clause-came g c =
    let x = c.args.tables.now in
    came_at x (g.S.Store.view c.args.keeper.now.store).state c.requires.served c.args.at c.get.result.now
    (c.requires.place, sym c.get.ensures)

pub returns-clause-sending : goal.returns-clause-sending
returns-clause-sending g c tells p place =
    let x = c.args.tables.now in
    let st = (g.S.Store.view c.args.keeper.now.store).state in
    subst (λ (q : Pending). IfOk c.sending_of.result (IsSending x st q))
    (at_place_is x.pending c.args.at c.get.result.now p c.get.ensures place) (c.sending_of.ensures.sending tells)
