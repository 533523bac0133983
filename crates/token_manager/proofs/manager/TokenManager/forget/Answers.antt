use Rattle.token_manager.proofs.Lawful.{lawful_none}
use Rattle.token_manager.proofs.Rooms.{room_none}
use Rattle.token_manager.proofs.manager.TokenManager.forget.Goals as goal

pub invariant_of-self : goal.invariant_of-self
invariant_of-self c =
    rw (c.new.ensures, c.new-then-is_later.ensures) (lawful_none _ _ _, room_none _ _ _ c.self.invariant.1)
