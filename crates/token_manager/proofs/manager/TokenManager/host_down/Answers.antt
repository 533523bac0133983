use Rattle.token_manager.proofs.Lawful.{lawful_filter, lawful_not_of}
use Rattle.token_manager.proofs.Rooms.{room_filter}
use Rattle.token_manager.proofs.manager.TokenManager.host_down.Goals as goal

pub invariant_of-self : goal.invariant_of-self
invariant_of-self c =
    rw (c.drop_host.ensures, c.drop_wants_of.ensures)
    (lawful_filter _ _ _ _ (lawful_not_of _ _ _ c.args.host c.self.invariant.0), room_filter _ _ _ _ c.self.invariant.1)
