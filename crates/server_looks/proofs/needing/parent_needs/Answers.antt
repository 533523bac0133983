use Rattle.std.proofs.Common.{◌≡◌, true, subst}
use Rattle.std.specs.Prelude.{IfOk}
use Rattle.tree_calls.specs.declared.place.Place.{Place}
use Rattle.need_server.specs.Wants.{all_of}
use Rattle.server_keeps.specs.Wanting.{wanted_of}
use Rattle.store_memory.specs.Reading.{looked_up}
use Rattle.server_looks.proofs.needing.parent_needs.Goals as goal

pub returns-clause-needs : goal.returns-clause-needs
returns-clause-needs g c tells =
    let state = (g.S.Store.view c.args.keeper.now.store).state in
    subst (λ (p : Place). IfOk c.object_needs.result
    (λ needs. needs ≡ wanted_of (looked_up state c.args.user.now p) (all_of true)))
    c.in_ok-parent.ensures (c.object_needs.ensures.needs tells)
