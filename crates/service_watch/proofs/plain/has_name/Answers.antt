use Rattle.std.proofs.Common.{◌≡◌, ℕ, List, refl}
use Rattle.base_types.specs.declared.ids.ServerId.{ServerId}
use Rattle.base_types.specs.declared.user.User.{User}
use Rattle.tree_calls.specs.declared.call.Call.{Call}
use Rattle.tree_calls.specs.declared.call.Call.TheVariants.{NewFileset, CloneFileset}
use Rattle.store_acts.specs.Sound.{HasName}
use Rattle.service_watch.proofs.plain.has_name.Goals as goal

-- another call makes none
named_else : (call : Call) → ((server : ServerId) (name : List ℕ) (objects : ℕ) (owner : User) → call
    ≡ NewFileset server name objects owner → ⊥)
    → ((server : ServerId) (source new : List ℕ) → call ≡ CloneFileset server source new → ⊥) → HasName call
named_else (NewFileset server name objects owner) n m = absurd (n server name objects owner refl)
named_else (CloneFileset server source new) n m = absurd (m server source new refl)
named_else _ n m = tt

pub returns-in_default : goal.returns-in_default
returns-in_default c = (
  λ _. named_else c.args.call.now c.in_default.not-NewFileset c.in_default.not-CloneFileset,
  λ _.
      refl,
)
