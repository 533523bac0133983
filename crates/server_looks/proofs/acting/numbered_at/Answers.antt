use Rattle.server_looks.proofs.Looked.{named_at}
use Rattle.server_looks.proofs.acting.numbered_at.Goals as goal

pub returns-clause-id : goal.returns-clause-id
returns-clause-id g c tells =
    named_at (g.S.Store.view c.args.keeper.now.store).state c.args.call.now c.in-Some.name.now c.in_ok-found.found
    c.found_or_itself.result c.in-Some.ensures
    (c.in_ok-found.ensures.found tells) c.found_or_itself.ensures
