-- What the cause of a step may teach a host.
use Rattle.base_types.specs.declared.ids.FilesetId.{FilesetId}
use Rattle.base_types.specs.declared.ids.ServerId.{ServerId}
use Rattle.message_types.specs.declared.giving.AppliedGive.{AppliedGive}
use Rattle.message_types.specs.declared.giving.Reclaimed.{Reclaimed as ReclaimedOf}
use Rattle.message_types.specs.declared.message.Body.TheVariants.{Grant, Reclaimed, Revoke}
use Rattle.message_types.specs.declared.telling.Bring.{Bring}
use Rattle.message_types.specs.declared.telling.Done.{Done as DoneOf}
use Rattle.message_types.specs.declared.telling.Grant.{Grant as GrantOf}
use Rattle.message_types.specs.declared.tokens.Revoke.{Revoke as RevokeOf}
use Rattle.run_rules.specs.Messages.{About, Comes, DoneComes, HasBye, IsWelcome, epoch_at}
use Rattle.run_rules.specs.Tokens.{AnswersRequest, Learns}
use Rattle.run_rules.specs.declared.step.Cause.{Cause}
use Rattle.run_rules.specs.declared.step.Cause.TheVariants.{Message as Came}
use Rattle.run_rules.specs.declared.step.Step.{Step}
use Rattle.std.specs.Prelude.{List, ◌∷◌, ◌≡◌}

-- the cause teaches nothing, and no floor rises by it
pub record TeachesNothing (past : List Step) (s : Step) : Type 0 where
  pub epochs : (v : ServerId) → epoch_at (s ∷ past) v ≡ epoch_at past v
  pub none_granted : (fs : FilesetId) (g : GrantOf) → About past s fs (Grant g) → ⊥
  pub none_settled : (v : ServerId) (d : DoneOf) → DoneComes past s v d → ⊥
  pub none_used : (w : Bring) → AnswersRequest past s w → ⊥
  pub none_revoked : (fs : FilesetId) (r : RevokeOf) → About past s fs (Revoke r) → ⊥
  pub none_learnt : (n : AppliedGive) → Learns past s n → ⊥
  pub none_reclaimed : (v : ServerId) (a : ReclaimedOf) → Comes past s v (Reclaimed a) → ⊥
  pub welcomes : (v : ServerId) → IsWelcome (s ∷ past) v → IsWelcome past v
  pub byes : (v : ServerId) → HasBye (s ∷ past) v → HasBye past v

-- it teaches nothing, but a floor may rise by a Revoke
pub record TeachesLittle (past : List Step) (s : Step) : Type 0 where
  pub epochs : (v : ServerId) → epoch_at (s ∷ past) v ≡ epoch_at past v
  pub none_granted : (fs : FilesetId) (g : GrantOf) → About past s fs (Grant g) → ⊥
  pub none_settled : (v : ServerId) (d : DoneOf) → DoneComes past s v d → ⊥
  pub none_used : (w : Bring) → AnswersRequest past s w → ⊥
  pub none_learnt : (n : AppliedGive) → Learns past s n → ⊥
  pub none_reclaimed : (v : ServerId) (a : ReclaimedOf) → Comes past s v (Reclaimed a) → ⊥
  pub welcomes : (v : ServerId) → IsWelcome (s ∷ past) v → IsWelcome past v
  pub byes : (v : ServerId) → HasBye (s ∷ past) v → HasBye past v

-- no message is the cause
abbrev pub IsOwnCause : Cause → Type 0
IsOwnCause (Came m) = ⊥
IsOwnCause _ = Unit {0}
