use Rattle.std.proofs.Common.{subst, sym}
use Rattle.std.specs.Prelude.{All}
use Rattle.token_manager.specs.Grants.{CanClaim}
use Rattle.token_manager.specs.Managers.{Manager}
use Rattle.token_manager.proofs.Lawful.{lawful_claims, last_claims}
use Rattle.token_manager.proofs.Rooms.{room_last}
use Rattle.token_manager.proofs.manager.TokenManager.admit.Goals as goal

pub admit-requires : goal.admit-requires
admit-requires c = subst (λ (m : Manager). All (CanClaim m.grants) c.args.tokens.now) (sym c.self.view_is) c.requires

pub invariant_of-self-2 : goal.invariant_of-self-2
invariant_of-self-2 c =
    let can = subst (λ (m : Manager). All (CanClaim m.grants) c.args.tokens.now) (sym c.self.view_is) c.requires in
    rw c.in_ok-admit.ensures.after (
      lawful_claims _ _ _ c.args.tokens.now can c.self.invariant.0,
      room_last _ _ _ _ (last_claims _ c.args.tokens.now) c.self.invariant.1,
    )
