-- Why tokens leave a host. Lists of steps have the newest first.
use Rattle.std.specs.Prelude.{List, Some, [], length, slice_get, suc, ℕ, ◌++◌, ◌+◌, ◌∷◌, ◌≡◌, ◌≤◌}
use Rattle.base_types.specs.declared.ids.HostId.{HostId}
use Rattle.base_types.specs.declared.ids.Node.TheVariants.{Host}
use Rattle.base_types.specs.declared.ids.ServerId.{ServerId}
use Rattle.base_types.specs.declared.limits.TheConstants.{CACHED_TOKENS_DEFAULT}
use Rattle.message_types.specs.declared.message.Body.TheVariants.{Down, Revoke}
use Rattle.message_types.specs.declared.tokens.Revoke.{Revoke as RevokeOf}
use Rattle.script_lines.specs.declared.script.Script.{Script}
use Rattle.token_types.specs.declared.token.Token.{Token}
use Rattle.tree_calls.specs.declared.call.Call.TheVariants.{Sync}
use Rattle.tree_calls.specs.declared.place.Place.{Place}
use Rattle.tree_calls.specs.declared.roster.HostLine.{HostLine}
use Rattle.tree_calls.specs.declared.roster.Roster.{Roster}
use Rattle.run_rules.specs.HostDue.{HostDue}
use Rattle.run_rules.specs.HostTokens.{HasUnused, IsOldest, IsUnused}
use Rattle.run_rules.specs.Messages.{About, HasKeptToken, Sends}
use Rattle.run_rules.specs.Past.{Always, In, Once}
use Rattle.run_rules.specs.Runs.{IsRun, past_of}
use Rattle.run_rules.specs.Steps.{limit_of, steps_of_host}
use Rattle.run_rules.specs.Tokens.{Drops, HasCall, IsLastUse, NoneUsed, TokenInUse, end_of}
use Rattle.run_rules.specs.Views.{FindsFile, IsDirtyUnder, Stance}
use Rattle.run_rules.specs.declared.applied.Why.TheVariants.{Evicted}
use Rattle.run_rules.specs.declared.applied.Leave.{Leave}
use Rattle.run_rules.specs.declared.journal.Journal.{Journal}
use Rattle.run_rules.specs.declared.step.Cause.TheVariants.{End, Evict}
use Rattle.run_rules.specs.declared.step.Labelled.{Labelled}
use Rattle.run_rules.specs.declared.step.Step.{Step}

-- How a token leaves a host in a step. `past` are the host's own earlier steps.
pub data LeavesBy (roster : Roster) (host : HostId) (past : List Step) (s : Step) (t : Token) : Type 0 where
  -- a Revoke that comes, of the epoch and stay that the host knows, names it, and it isn't in use
  IsAskedBack : (r : RevokeOf) → About past s r.fid.fileset (Revoke r) → In t.id r.ids → (TokenInUse past t.id → ⊥)
      → LeavesBy roster host past s t
  -- more tokens are unused than the host caches, and none of those was used longer ago
  IsEvicted : s.cause ≡ Evict → HasUnused past (suc (limit_of roster host)) → IsUnused past t
      → IsOldest roster host past t → LeavesBy roster host past s t
  -- a Sync of its file gives back what is dirty under it
  IsSynced : (k : ℕ) (place : Place) (stance : Stance roster host past s) → HasCall past s k (Sync place)
      → FindsFile stance place t.fid → IsDirtyUnder past s t → LeavesBy roster host past s t
  -- its last use ends, and a Kept named it
  IsReleased : (k : ℕ) (u : Labelled) → HasCall past s k (end_of u) → u.token ≡ t → IsLastUse past u
      → HasKeptToken past t.id → LeavesBy roster host past s t
  -- the host ends, and nothing is in use
  HostEnds : s.cause ≡ End → NoneUsed past → LeavesBy roster host past s t
  -- it stops
  HostStops : (v : ServerId) (e n : ℕ) → Sends s v e n Down → LeavesBy roster host past s t

abbrev pub TokensLeaveSo : Type 0
TokensLeaveSo =
    (script : Script) (journal : Journal) → IsRun script journal
    → Always (λ before s. (host : HostId) → s.node ≡ Host host → (t : Token) → Drops s t
    → LeavesBy script.roster host (steps_of_host host before) s t) (past_of journal)

-- the unused tokens are among some, of which there are no more than the host caches
abbrev pub AreFew : Roster → HostId → List Step → Type 0
AreFew roster host past =
    (tokens : List Token) × ((t : Token) → IsUnused past t → In t tokens) × (length tokens ≤ limit_of roster host)

-- Then no token is evicted; and a host that does what is due doesn't even try.
pub record FewStay : Type 0 where
  pub leaves : (script : Script) (journal : Journal) → IsRun script journal
      → Always (λ before s. (host : HostId) → s.node ≡ Host host → AreFew script.roster host (steps_of_host host before)
      → (l : Leave) → In l s.dropped → l.why ≡ Evicted → ⊥) (past_of journal)
  pub steps : (script : Script) (host : HostId) (past : List Step) (s : Step) → HostDue script host past s
      → AreFew script.roster host past → s.cause ≡ Evict → ⊥

-- in some steps no call is answered, and this token isn't taken
abbrev pub LieUnused : List Step → Token → Type 0
LieUnused [] t = Unit {0}
LieUnused (s ∷ steps) t = LieUnused steps t × (s.answers ≡ []) × (In t s.taken → ⊥)

-- one of some steps takes the token
abbrev pub IsTakenIn : List Step → Token → Type 0
IsTakenIn steps t = Once (λ before s. In t s.taken) steps

-- Of two unused tokens the one isn't evicted that came later, where no call was answered and the other one wasn't taken
-- since.
abbrev pub YoungerStay : Type 0
YoungerStay =
    (script : Script) (journal : Journal) → IsRun script journal
    → Always (λ before s. (host : HostId) → s.node ≡ Host host → (l : Leave) → In l s.dropped → l.why ≡ Evicted
    → (other : Token) → IsUnused (steps_of_host host before) other → (later earlier : List Step)
    → steps_of_host host before ≡ later ++ earlier → IsTakenIn later l.token → LieUnused later other
    → ⊥) (past_of journal)

-- a host caches as many as the script says of it; the setup host, of which no line says so, as many as is usual
pub record LimitsAreTold : Type 0 where
  pub setup : (roster : Roster) → limit_of roster (record { 0 = 0 }) ≡ CACHED_TOKENS_DEFAULT
  pub host : (roster : Roster) (i : ℕ) (line : HostLine) → slice_get roster.hosts i ≡ Some line
      → limit_of roster (record { 0 = i + 1 }) ≡ line.limit
