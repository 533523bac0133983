-- Whole steps in which a call begins and is left open, with give-backs for it: a Sync of what is dirty, and the end of
-- the last use of a pinned token; by a line, or implied at the end.
use Rattle.base_types.specs.declared.ids.Node.TheVariants.{Host}
use Rattle.base_types.specs.declared.ids.ServerId.{ServerId}
use Rattle.host_cache.specs.Holding.{tokens_of}
use Rattle.host_tables.specs.AsksByLine.{begun_call}
use Rattle.host_tables.specs.AtOnce.{IsFree, IsNextCall}
use Rattle.host_tables.specs.Giving.{GivesBack}
use Rattle.host_tables.specs.Half.{learning}
use Rattle.host_tables.specs.LeavingSteps.{LeavesRight, Left, with_left}
use Rattle.host_tables.specs.Letting.{Keeping}
use Rattle.host_tables.specs.Machine.{Rests, StepRight}
use Rattle.host_tables.specs.Quiet.{Moved, with_moved}
use Rattle.host_tables.specs.Saying.{IsFirst}
use Rattle.host_tables.specs.Stands.{Finds, IsAtRest, IsCoveredFrom, IsDirtyFrom, verdict_from}
use Rattle.host_tables.specs.Tables.{held_of, site_at}
use Rattle.host_tables.specs.WholeSteps.{moved_of}
use Rattle.host_tables.specs.declared.tables.Tables.{Tables}
use Rattle.message_types.specs.declared.giving.Give.{Give}
use Rattle.message_types.specs.declared.message.Body.TheVariants.{GiveBack}
use Rattle.message_types.specs.declared.message.Message.{Message}
use Rattle.need_host.specs.Calls.Verdict.{Gives}
use Rattle.run_rules.specs.HostMay.{TakenBefore}
use Rattle.run_rules.specs.Messages.{SendsTo, home, stay_of}
use Rattle.run_rules.specs.Past.{In}
use Rattle.run_rules.specs.Steps.{lines_gone, lines_of}
use Rattle.run_rules.specs.Tokens.{FreesPinned, LabelInUse, end_of}
use Rattle.run_rules.specs.declared.applied.Leave.{Leave}
use Rattle.run_rules.specs.declared.applied.Why.TheVariants.{ForCall as ForCall}
use Rattle.run_rules.specs.declared.step.Cause.{Cause}
use Rattle.run_rules.specs.declared.step.Cause.TheVariants.{End, Line as LineOf}
use Rattle.run_rules.specs.declared.step.Labelled.{Labelled}
use Rattle.run_rules.specs.declared.step.Step.{Step}
use Rattle.script_lines.specs.declared.script.Script.{Script}
use Rattle.std.specs.Prelude.{List, Some, [], length, true, ℕ, ◌+◌, ◌∷◌, ◌≡◌}
use Rattle.token_types.specs.declared.token.Token.{Token}
use Rattle.tree_calls.specs.declared.call.Call.{Call}
use Rattle.tree_calls.specs.declared.call.Call.TheVariants.{Sync}
use Rattle.tree_calls.specs.declared.place.Place.{Place as NamedPlace}

-- why the call begins
pub data BeginsBy (script : Script) (m : Tables) (past : List Step) (call : Call) : Cause → Type 0 where
  ByLine : (line : ℕ) → IsNextCall script m.host past line call → BeginsBy script m past call (LineOf line)
  -- all lines have gone, and it ends the use of the label that was taken first
  ByEnd : lines_gone past ≡ length (lines_of script (Host m.host)) → (u : Labelled) → LabelInUse past u
      → call ≡ end_of u
      → ((other : Labelled) → LabelInUse past other → TakenBefore past other u → ⊥) → BeginsBy script m past call End

abbrev pub gives_for : Tables → Cause → Call → List Give → List Leave → List Message → Step
gives_for m cause call made dropped sent =
    record (learning m.host cause []) { asked = Some (begun_call m call); made = made; dropped = dropped; sent = sent }

-- the call, with its number
abbrev pub call_moved : Tables → Call → Moved
call_moved m call = record (moved_of m) { call = Some (begun_call m call); begun = m.begun + 1; lost = [] }

-- why a token leaves for it
pub data LeavesFor (m : Tables) (past : List Step) (call : Call) (t : Token) : Type 0 where
  ForSync : (place : NamedPlace) → call ≡ Sync place → Finds m place t.fid → In t (held_of m) → IsDirtyFrom m past t
      → LeavesFor m past call t
  ForEnd : (u : Labelled) → call ≡ end_of u → FreesPinned past u → u.token ≡ t → LeavesFor m past call t

abbrev pub CallGivesRight : Type 0
CallGivesRight = (script : Script) (m : Tables) (l : Left) (past : List Step) (cause : Cause) (call : Call)
    (made : List Give)
    (dropped : List Leave) (sent : List Message) → let s = gives_for m cause call made dropped sent in
    Rests script m past → IsFree m → BeginsBy script m past call cause
    → IsCoveredFrom m call → verdict_from m call ≡ Gives → (g : Give) → In g made
    → ((d : Leave) → In d dropped → (d.why ≡ ForCall) × LeavesFor m past call d.token)
    → LeavesRight m l past s → Keeping m past s (tokens_of l.cache.held) → GivesBack m past s (tokens_of l.cache.held)
    → ((y : Message) → In y sent → (y.epoch ≡ (site_at m.sites y.server).epoch) × (y.moves ≡ 0)
    × ((k : Give) × IsFirst l.gives k × (home k.fid.fileset ≡ y.server) × (y.body ≡ GiveBack k)))
    → ((k : Give) → IsFirst l.gives k → (IsFirst m.gives k → ⊥)
    → SendsTo s (stay_of (s ∷ past) k.fid.fileset) (GiveBack k))
    → ((v : ServerId) → (site_at m.sites v).said_bye ≡ true → ⊥)
    → IsAtRest (with_moved (with_left m l) (call_moved m call)) (s ∷ past)
    → StepRight script m (with_moved (with_left m l) (call_moved m call)) past s
