use Rattle.token_manager.proofs.Lawful.{lawful_filter}
use Rattle.token_manager.proofs.Rooms.{room_filter}
use Rattle.token_manager.proofs.manager.TokenManager.drop_fileset.Goals as goal

pub invariant_of-self : goal.invariant_of-self
invariant_of-self c = rw c.drop_wants_in.ensures (
  lawful_filter _ _ _ _ c.self.invariant.0,
  room_filter _ _ _ _ c.self.invariant.1,
)
