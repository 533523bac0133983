-- A step in which no call is answered, and tokens leave.
use Rattle.base_types.specs.declared.ids.FilesetId.{FilesetId}
use Rattle.base_types.specs.declared.ids.HostId.{HostId}
use Rattle.base_types.specs.declared.ids.ServerId.{ServerId}
use Rattle.host_tables.specs.Answering.{AnswersNone}
use Rattle.host_tables.specs.Causes.{CauseMay}
use Rattle.host_tables.specs.Giving.{GivesBack}
use Rattle.host_tables.specs.Half.{half}
use Rattle.host_tables.specs.Sending.{MaySend}
use Rattle.host_tables.specs.Stands.{Stands}
use Rattle.host_tables.specs.Tables.{held_of, own_of}
use Rattle.host_tables.specs.declared.tables.Tables.{Tables}
use Rattle.message_types.specs.declared.message.Message.{Message}
use Rattle.run_rules.specs.HostAsks.{AwaitsGone, GoesTo}
use Rattle.run_rules.specs.HostTokens.{MayLeave}
use Rattle.run_rules.specs.Messages.{Asking, Changing, HasGreeted, IsWelcome}
use Rattle.run_rules.specs.HostMay.{HostMay}
use Rattle.run_rules.specs.Past.{In}
use Rattle.run_rules.specs.Steps.{limit_of}
use Rattle.run_rules.specs.Tokens.{Drops, IsOpen, LeavesHost}
use Rattle.run_rules.specs.Views.{Stance}
use Rattle.run_rules.specs.declared.applied.Leave.{Leave}
use Rattle.run_rules.specs.declared.step.Asked.{Asked}
use Rattle.run_rules.specs.declared.step.Step.{Step}
use Rattle.script_lines.specs.declared.script.Script.{Script}
use Rattle.std.specs.Prelude.{List, ℕ, ◌∷◌, ◌≡◌, ◌⊎◌}
use Rattle.token_types.specs.declared.token.Token.{Token}
use Rattle.tree_calls.specs.declared.roster.Roster.{Roster}

-- which tokens are left: those that were held, but for those that a give-back or a Returned names
pub record Keeping (m : Tables) (past : List Step) (s : Step) (kept : List Token) : Type 0 where
  pub were : (t : Token) → In t kept → In t (held_of m)
  pub stay : (t : Token) → In t kept → (LeavesHost s t.id → ⊥) × (Drops s t → ⊥)
  pub gone : (t : Token) → In t (held_of m) → In t kept ⊎ (LeavesHost s t.id × Drops s t)
  pub dropped : (t : Token) → Drops s t → In t (held_of m)

-- what the open call waits for, as the rules say it
abbrev pub IsAsked : (roster : Roster) (host : HostId) (past : List Step) (s : Step) → Stance roster host past s
    → Type 0
IsAsked roster host past s stance = (call : Asked) → IsOpen (s ∷ past) call
    → ((fs : FilesetId) × (n : ℕ) × Asking (s ∷ past) fs n)
    ⊎ (((v : ServerId) × (fs : FilesetId) × (n : ℕ) × Changing (s ∷ past) v fs n)
    ⊎ (AwaitsGone roster host past s stance call.call
    ⊎ ((v : ServerId) × GoesTo roster host past s stance call.call v × HasGreeted (s ∷ past) v
    × (IsWelcome (s ∷ past) v → ⊥))))

-- what the step sends, whatever its tokens are
pub record Sending (script : Script) (host : HostId) (past : List Step) (s : Step)
    (stance : Stance script.roster host past s)
    : Type 0 where
  pub may : (x : Message) → In x s.sent → MaySend script.roster host past s stance x
  pub asks : IsAsked script.roster host past s stance
  pub one_fetch : (fs gs : FilesetId) (n k : ℕ) → Asking (s ∷ past) fs n → Asking (s ∷ past) gs k → (fs ≡ gs) × (n ≡ k)
  pub one_change : (v w : ServerId) (fs gs : FilesetId) (n k : ℕ)
      → Changing (s ∷ past) v fs n → Changing (s ∷ past) w gs k → (fs ≡ gs) × (n ≡ k)
  pub one_of_both : (v : ServerId) (fs gs : FilesetId) (n k : ℕ) → Asking (s ∷ past) fs n → Changing (s ∷ past) v gs k
      → ⊥

abbrev pub LeavesMay : Type 0
LeavesMay = (script : Script) (m : Tables) (past : List Step) (s : Step) (learnt : Stands script m (half s ∷ past))
    (kept : List Token) → Keeping m past s kept → GivesBack m past s kept → AnswersNone m past s
    → CauseMay script m.host past s
    → ((l : Leave) → In l s.dropped → MayLeave script.roster m.host (limit_of script.roster m.host) past s l.why
    l.token)
    → ((stance : Stance script.roster m.host past s) → stance.kept ≡ kept → stance.held ≡ held_of m
    → stance.own ≡ own_of m
    → stance.user ≡ m.user → Sending script m.host past s stance)
    → HostMay script m.host past s
