use Rattle.std.proofs.Common.{true}
use Rattle.token_manager.proofs.Lawful.{lawful_marked}
use Rattle.token_manager.proofs.manager.TokenManager.kept.Goals as goal

pub invariant_of-self : goal.invariant_of-self
invariant_of-self c = rw c.pin.ensures (
  lawful_marked _ _ _ c.args.id (λ note. record note { pinned = true })
      (λ token note n. record { host = n.host; asked = n.asked; in_turn = n.in_turn }) c.self.invariant.0,
  c.self.invariant.1,
)
