use Rattle.token_manager.proofs.Lawful.{lawful_none}
use Rattle.token_manager.proofs.Rooms.{room_new}
use Rattle.token_manager.proofs.manager.TokenManager.new.Goals as goal

pub invariant_of-result : goal.invariant_of-result
invariant_of-result c = rw (c.new.ensures, c.new-2.ensures) (lawful_none _ _ _, room_new)
