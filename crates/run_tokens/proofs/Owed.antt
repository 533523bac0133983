-- What a server owes a host: what is granted, and what was granted before a restart while its host hasn't reclaimed since.
use Rattle.std.proofs.Common.{◌≡◌, ◌⊎◌, List, [], ◌∷◌}
use Rattle.base_types.specs.declared.ids.ServerId.{ServerId}
use Rattle.token_types.specs.declared.token.Token.{Token}
use Rattle.run_rules.specs.Doings.{Doing, GivesUp, GoesAway, HasReclaimed, Issues, StayStamp}
use Rattle.run_rules.specs.Doings.Doing.{Admits}
use Rattle.run_rules.specs.Past.{In}

-- the doing leaves what is owed
pub record Stays (v : ServerId) (past : List Doing) (a : Doing) (t : Token) : Type 0 where
  pub unnamed : HasReclaimed past t.host → GivesUp v past a t.host t.id → ⊥
  pub here : GoesAway past a t.host → ⊥
  pub admitted : (ts : List Token) → a ≡ Admits t.host ts → In t ts

abbrev pub Owed : ServerId → List Doing → Token → Type 0
Owed v [] t = ⊥
Owed v (a ∷ past) t = ((k : StayStamp) × Issues a t k) ⊎ (Owed v past t × Stays v past a t)
