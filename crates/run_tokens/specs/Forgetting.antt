-- What a server forgets when a new epoch begins, and what it keeps; and what a flush changes.
use Rattle.std.specs.Prelude.{ℕ, List, ◌∷◌, ◌↔◌}
use Rattle.base_types.specs.declared.ids.HostId.{HostId}
use Rattle.base_types.specs.declared.ids.ServerId.{ServerId}
use Rattle.base_types.specs.declared.ids.FilesetId.{FilesetId}
use Rattle.base_types.specs.declared.ids.Fid.{Fid}
use Rattle.token_types.specs.declared.token.TokenId.{TokenId}
use Rattle.token_types.specs.declared.token.Token.{Token}
use Rattle.message_types.specs.declared.giving.AppliedGive.{AppliedGive}
use Rattle.run_rules.specs.Doings.{Doing, GivenUp, Granted, HasGoneAway, HasGoneDown, HasReclaimed, HasUsedStamp}
use Rattle.run_rules.specs.Doings.{IsApplied, Listed, Pinned, Reserved, WasWritten}
use Rattle.run_rules.specs.Doings.Doing.{BeginsEpoch, Flushes}

-- nothing of this is so any more
pub record IsForgotten (v : ServerId) (past : List Doing) : Type 0 where
  pub granted : (t : Token) → Granted v past t → ⊥
  pub pinned : (t : Token) → Pinned v past t → ⊥
  pub reserved : (t : Token) → Reserved past t → ⊥
  pub reclaimed : (h : HostId) → HasReclaimed past h → ⊥
  pub given_up : (h : HostId) (i : TokenId) → GivenUp v past h i → ⊥
  pub told : (f : Fid) (x : ℕ) → HasUsedStamp past f x → ⊥

-- all of this is so after the doing just where it was so before
pub record IsKept (v : ServerId) (past : List Doing) (a : Doing) : Type 0 where
  pub applied : (h : HostId) (n : AppliedGive) → IsApplied v (a ∷ past) h n ↔ IsApplied v past h n
  pub written : (h : HostId) (fs : FilesetId) (n : ℕ) → WasWritten (a ∷ past) h fs n ↔ WasWritten past h fs n
  pub listed : (h : HostId) → Listed (a ∷ past) h ↔ Listed past h
  pub down : (h : HostId) → HasGoneDown (a ∷ past) h ↔ HasGoneDown past h
  pub away : (h : HostId) → HasGoneAway (a ∷ past) h ↔ HasGoneAway past h

-- A restart forgets tokens, pins, claims and stamps. The list of hosts and all numbers outlive it. A flush lets the
-- exporter's tokens go, and changes no host's.
pub record Forgetting : Type 0 where
  pub restart : (v : ServerId) (past : List Doing) (epoch : ℕ) → IsForgotten v (BeginsEpoch epoch ∷ past)
  pub lasting : (v : ServerId) (past : List Doing) (epoch : ℕ) → IsKept v past (BeginsEpoch epoch)
  pub flush : (past : List Doing) (t : Token) → Reserved (Flushes ∷ past) t → ⊥
  pub hosts : (v : ServerId) (past : List Doing) (t : Token) → Granted v (Flushes ∷ past) t ↔ Granted v past t
