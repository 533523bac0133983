use Rattle.token_manager.proofs.Lawful.{lawful_without}
use Rattle.token_manager.proofs.manager.TokenManager.returned.Goals as goal

pub invariant_of-self : goal.invariant_of-self
invariant_of-self c = rw c.drop_token.ensures (lawful_without _ _ _ c.args.id c.self.invariant.0, c.self.invariant.1)
