-- A whole step in which a host, once it has learnt and taken, does nothing with its tokens, labels and files, and
-- answers
-- no call: what it says, and for what its open call waits then.
use Rattle.base_types.specs.declared.ids.Fid.{Fid}
use Rattle.host_tables.specs.Causes.{CauseMay}
use Rattle.host_tables.specs.Half.{half}
use Rattle.host_tables.specs.Machine.{StepRight}
use Rattle.host_tables.specs.Quiet.{IsQuiet, Moved, MovesRight, with_moved}
use Rattle.host_tables.specs.Sending.{MaySend}
use Rattle.host_tables.specs.Stands.{IsAtRest, Stands}
use Rattle.host_tables.specs.Tables.{held_of, own_of}
use Rattle.host_tables.specs.declared.tables.Tables.{Tables}
use Rattle.message_types.specs.declared.message.Message.{Message}
use Rattle.run_rules.specs.HostMay.{HostMay}
use Rattle.run_rules.specs.HostTokens.{OwnsUpdate}
use Rattle.run_rules.specs.Messages.{ReturnsToken}
use Rattle.run_rules.specs.Past.{In}
use Rattle.run_rules.specs.Views.{Stance, is_dirty}
use Rattle.run_rules.specs.declared.step.Step.{Step}
use Rattle.script_lines.specs.declared.script.Script.{Script}
use Rattle.std.specs.Prelude.{List, true, ℕ, ◌∷◌, ◌≡◌}
use Rattle.token_types.specs.declared.token.Token.{Token}
use Rattle.tree_calls.specs.declared.roster.Roster.{Roster}

-- the stance is that of the tables, and all tokens stay
pub record IsOfTables (roster : Roster) (m : Tables) (past : List Step) (s : Step)
    (stance : Stance roster m.host past s)
    : Type 0 where
  pub kept : stance.kept ≡ held_of m
  pub held : stance.held ≡ held_of m
  pub own : stance.own ≡ own_of m
  pub user : stance.user ≡ m.user

abbrev pub QuietMay : Type 0
QuietMay = (script : Script) (m : Tables) (x : Moved) (past : List Step) (s : Step)
    → Stands script m (half s ∷ past) → IsQuiet s → MovesRight m x past s → CauseMay script m.host past s
    → ((t : Token) → In t (held_of m) → ReturnsToken s t.id → ⊥)
    → ((stance : Stance script.roster m.host past s) → IsOfTables script.roster m past s stance
    → (y : Message) → In y s.sent → MaySend script.roster m.host past s stance y)
    → IsAtRest (with_moved m x) (s ∷ past) → HostMay script m.host past s

-- the step does what it may, and the tables stand for the steps with it
abbrev pub QuietRight : Type 0
QuietRight = (script : Script) (old m : Tables) (x : Moved) (past : List Step) (s : Step) → old.host ≡ m.host
    → ((fid : Fid) (at : ℕ) → is_dirty past fid at ≡ true → OwnsUpdate past fid at)
    → Stands script m (half s ∷ past) → IsQuiet s → MovesRight m x past s → CauseMay script m.host past s
    → ((t : Token) → In t (held_of m) → ReturnsToken s t.id → ⊥)
    → ((stance : Stance script.roster m.host past s) → IsOfTables script.roster m past s stance
    → (y : Message) → In y s.sent → MaySend script.roster m.host past s stance y)
    → IsAtRest (with_moved m x) (s ∷ past) → StepRight script old (with_moved m x) past s
