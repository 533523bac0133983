-- Labels in use in the tree, the rules of hosts for them, and what holds of them. Lists of steps have the newest first.
use Rattle.std.specs.Prelude.{List, [], ℕ, ◌∷◌, ◌≡◌, ◌⊎◌, true}
use Rattle.base_types.specs.declared.ids.HostId.{HostId}
use Rattle.base_types.specs.declared.ids.Node.{Node}
use Rattle.base_types.specs.declared.ids.Node.TheVariants.{Host, Server}
use Rattle.base_types.specs.declared.ids.ServerId.{ServerId}
use Rattle.message_types.specs.declared.giving.Give.{Give}
use Rattle.message_types.specs.declared.message.Body.TheVariants.{Down}
use Rattle.token_types.specs.Conflicts.{conflict}
use Rattle.token_types.specs.declared.token.Token.{Token}
use Rattle.token_types.specs.declared.token.TokenId.{TokenId}
use Rattle.run_parts.specs.Doings.{doings}
use Rattle.run_rules.specs.Doings.{Doing, Granted, HasGoneAway, HasReclaimed, Pinned, doings_of}
use Rattle.run_rules.specs.Doings.Doing.{Took}
use Rattle.run_rules.specs.Messages.{HasKeptToken, KeepsToken, ReturnsToken}
use Rattle.run_rules.specs.Past.{In}
use Rattle.run_rules.specs.Steps.{steps_of_host}
use Rattle.run_rules.specs.Tokens.{EndsUse, GivesUse, HasEndedUse, IsKnown, LabelInUse, Owns, TokenInUse}
use Rattle.run_tokens.specs.TokenLaws.{Applies, IsTokenRun}
use Rattle.run_rules.specs.declared.step.Labelled.{Labelled}
use Rattle.run_rules.specs.declared.step.Step.{Step}

-- what becomes of tokens in use
pub record UsesStay (past : List Step) (s : Step) : Type 0 where
  -- one isn't returned, and a give-back that names it ends its use
  pub returns_idle : (i : TokenId) → ReturnsToken s i → TokenInUse past i → ⊥
  pub makes_ends : (g : Give) (u : Labelled) → In g s.made → LabelInUse past u → In u.token.id g.ids → GivesUse g u
  -- a Kept names one
  pub keeps : (i : TokenId) → KeepsToken s i → TokenInUse (s ∷ past) i

-- what a host's step may do with labels
pub record HostUses (past : List Step) (s : Step) : Type 0 where
  -- a label begins with a token that stays
  pub begins : (u : Labelled) → In u s.begun → Owns (s ∷ past) u.token
  pub stay : UsesStay past s
  -- the host itself doesn't end the last use of a token that a Kept named
  pub ends : (u : Labelled) → EndsUse s u → LabelInUse past u → HasKeptToken past u.token.id
      → (TokenInUse (s ∷ past) u.token.id → ⊥) → ⊥
  -- nor a use that a give-back of the step, or one on its way, ends
  pub ends_apart : (u : Labelled) (g : Give) → EndsUse s u → In g s.made → GivesUse g u → ⊥
  pub ends_known : (u : Labelled) (g : Give) → EndsUse s u → HasEndedUse past g u → (IsKnown (s ∷ past) g → ⊥) → ⊥

abbrev pub StepUses : Node → List Step → Step → Type 0
StepUses (Host host) past s = HostUses (steps_of_host host past) s
StepUses (Server server) past s = Unit {0}

abbrev pub UsesRun : List Step → Type 0
UsesRun [] = Unit {0}
UsesRun (s ∷ past) = UsesRun past × StepUses s.node past s

-- the doing takes the host's Down, or applies a give-back that ends the use
abbrev pub Frees : ServerId → List Doing → Doing → HostId → Labelled → Type 0
Frees v past a host usage =
    ((e n : ℕ) × (a ≡ Took host e n Down)) ⊎ ((g : Give) × Applies v past a host g × GivesUse g usage)

-- one of these doings does, the oldest first
abbrev pub FreesAny : ServerId → List Doing → List Doing → HostId → Labelled → Type 0
FreesAny v [] past host usage = ⊥
FreesAny v (a ∷ more) past host usage = Frees v past a host usage ⊎ FreesAny v more (a ∷ past) host usage

-- the host has the label in use in the tree, under the token: it began, and neither the host ended it, nor did the
-- server of the token free it
abbrev pub LockedAfter : (ServerId → ℕ) → Node → Step → List Step → Type 0 → HostId → Labelled → Type 0
LockedAfter firsts (Host k) s past old host usage =
    ((k ≡ host) × In usage s.begun) ⊎ (old × (k ≡ host → EndsUse s usage → ⊥))
LockedAfter firsts (Server v) s past old host usage =
    old
    × (usage.token.id.server ≡ v
    → FreesAny v (doings s (doings_of (firsts v) v past)) (doings_of (firsts v) v past) host usage → ⊥)

abbrev pub Locked : (ServerId → ℕ) → List Step → HostId → Labelled → Type 0
Locked firsts [] host usage = ⊥
Locked firsts (s ∷ past) host usage = LockedAfter firsts s.node s past (Locked firsts past host usage) host usage

-- the doings of the server that issued a token
abbrev pub issuer_acts : (ServerId → ℕ) → List Step → Token → List Doing
issuer_acts firsts past token = doings_of (firsts token.id.server) token.id.server past

-- a label in use in the tree has a granted token, until its host's Down or Bye is taken, once the host has reclaimed
abbrev pub LockedGranted : (ServerId → ℕ) → List Step → Type 0
LockedGranted firsts past =
    (h : HostId) (u : Labelled) → Locked firsts past h u → (HasGoneAway (issuer_acts firsts past u.token) h → ⊥)
    → HasReclaimed (issuer_acts firsts past u.token) h
    → Granted u.token.id.server (issuer_acts firsts past u.token) u.token

-- labels in use in the tree of two hosts have tokens that don't conflict, in a grace period too
abbrev pub LocksApart : (ServerId → ℕ) → List Step → Type 0
LocksApart firsts past =
    (h k : HostId) (t u : Labelled) → Locked firsts past h t → Locked firsts past k u
    → (HasGoneAway (issuer_acts firsts past t.token) h → ⊥) → (HasGoneAway (issuer_acts firsts past u.token) k → ⊥)
    → conflict t.token u.token ≡ true → ⊥

-- what a server has pinned isn't without a label in use in the tree
abbrev pub PinnedLocked : (ServerId → ℕ) → List Step → Type 0
PinnedLocked firsts past =
    (t : Token) → Pinned t.id.server (issuer_acts firsts past t) t
    → ((u : Labelled) → u.token.id ≡ t.id → Locked firsts past t.host u → ⊥) → ⊥

abbrev pub LabelsHold : ((ServerId → ℕ) → List Step → Type 0) → Type 0
LabelsHold Holds =
    (firsts : ServerId → ℕ) (past : List Step) → IsTokenRun firsts past → UsesRun past → Holds firsts past
