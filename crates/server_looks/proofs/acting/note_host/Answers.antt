use Rattle.std.proofs.Common.{◌∙◌}
use Rattle.server_looks.proofs.Again.{host_again, host_done}
use Rattle.server_looks.proofs.acting.note_host.Goals as goal

pub returns-clause-state : goal.returns-clause-state
returns-clause-state g c tells =
    let start = (g.S.Store.view c.args.keeper.now.store).state in
    c.in_ok-apply_one.ensures.state tells (host_again start c.args.host c.args.state)
    ∙ host_done start c.args.host c.args.state
