-- Which tokens a step uses: the same for all stances of it.
use Rattle.base_types.specs.declared.ids.HostId.{HostId}
use Rattle.host_cache.specs.Holding.{is_idle, last_of, used}
use Rattle.host_cache.specs.declared.held.Held.{Held}
use Rattle.host_tables.specs.Half.{half}
use Rattle.host_tables.specs.Stands.{IsCoveredFrom, OrderStands, Stands, needs_from}
use Rattle.host_tables.specs.declared.tables.Tables.{Tables}
use Rattle.run_rules.specs.HostTokens.{IsOldest, UsesToken, helps_cover}
use Rattle.run_rules.specs.Past.{In}
use Rattle.run_rules.specs.Views.{Stance, needs_in}
use Rattle.run_rules.specs.declared.applied.Answer.{Answer as AnswerOf}
use Rattle.run_rules.specs.declared.step.Step.{Step}
use Rattle.script_lines.specs.declared.script.Script.{Script}
use Rattle.std.specs.Prelude.{List, Some, [], filter, true, ◌↔◌, ◌∷◌, ◌≡◌, ◌⊎◌}
use Rattle.token_types.specs.declared.token.Need.{Need}
use Rattle.token_types.specs.declared.token.Token.{Token}
use Rattle.tree_calls.specs.declared.call.Call.{Call}
use Rattle.tree_calls.specs.declared.roster.Roster.{Roster}

-- what a call needs is the same in all stances of a step
abbrev pub NeedsAreOne : Type 0
NeedsAreOne = (roster : Roster) (host : HostId) (past : List Step) (s : Step) (a b : Stance roster host past s)
    (call : Call)
    → needs_in a call ≡ needs_in b call

-- the token is taken, or helps to cover what an answered call needs, by the tables
abbrev pub UsesFrom : Tables → Step → Token → Type 0
UsesFrom m s token = In token s.taken
    ⊎ ((a : AnswerOf) × (need : Need) × In a s.answers × In need (needs_from m a.call)
    × (helps_cover token need ≡ true))

-- in a step whose answered calls are covered the tokens used are those that the tables tell
abbrev pub UsesAreTold : Type 0
UsesAreTold = (script : Script) (m : Tables) (past : List Step) (s : Step) → Stands script m (half s ∷ past)
    → ((a : AnswerOf) → In a s.answers → IsCoveredFrom m a.call)
    → (stance : Stance script.roster m.host past s) (t : Token)
    → UsesToken script.roster m.host past s t ↔ UsesFrom m s t

-- the cache after the needs of a call, one after another
abbrev pub used_all : List Need → List Held → List Held
used_all [] held = held
used_all (need ∷ needs) held = used_all needs (used need held)

-- The cache's order stands after a step that uses, beside what it takes, the tokens that help to cover these needs.
abbrev pub OrderIsKept : Type 0
OrderIsKept = (script : Script) (m : Tables) (past : List Step) (s : Step) → Stands script m (half s ∷ past)
    → ((a : AnswerOf) → In a s.answers → IsCoveredFrom m a.call)
    → Stance script.roster m.host past s
    → (needs : List Need)
    → ((need : Need) → In need needs → (a : AnswerOf) × In a s.answers × In need (needs_from m a.call))
    → ((a : AnswerOf) (need : Need) → In a s.answers → In need (needs_from m a.call) → In need needs)
    → OrderStands script.roster m.host (used_all needs m.cache.held) (s ∷ past)

-- the cache's oldest token is the oldest by the rules
abbrev pub OldestIsOldest : Type 0
OldestIsOldest = (script : Script) (m : Tables) (past : List Step) → Stands script m past → (h : Held)
    → last_of (filter is_idle m.cache.held) ≡ Some h → IsOldest script.roster m.host past h.token
