-- The calls that a host begins in a run are those of its lines.
use Rattle.std.specs.Prelude.{
  ◌≡◌,
  ◌⊎◌,
  ℕ,
  suc,
  if◌then◌else◌,
  List,
  [],
  ◌∷◌,
  ◌++◌,
  length,
  map,
  take,
  Option,
  Some,
  None,
}
use Rattle.base_types.specs.declared.ids.HostId.{HostId}
use Rattle.base_types.specs.declared.ids.Node.TheVariants.{Host}
use Rattle.tree_calls.specs.declared.call.Call.{Call}
use Rattle.script_lines.specs.declared.script.Deed.{Deed}
use Rattle.script_lines.specs.declared.script.Deed.TheVariants.{Call as MakesCall}
use Rattle.script_lines.specs.declared.script.Line.{Line}
use Rattle.script_lines.specs.declared.script.Script.{Script}
use Rattle.run_rules.specs.declared.applied.Answer.{Answer}
use Rattle.run_rules.specs.declared.step.Asked.{Asked}
use Rattle.run_rules.specs.declared.step.Step.{Step}
use Rattle.run_rules.specs.Messages.{HasStopped}
use Rattle.run_rules.specs.Runs.{IsEnded, IsRun, TakesPart, past_of}
use Rattle.run_rules.specs.Steps.{lines_gone, lines_of, steps_of_host}
use Rattle.run_rules.specs.Tokens.{calls_begun}
use Rattle.message_types.specs.Soundness.{Each, IsEnd}
use Rattle.run_rules.specs.declared.journal.Journal.{Journal}
use Rattle.run_contents.specs.Steps.{HostRun}

abbrev pub asked_as : ℕ → Call → Asked
asked_as k call = record { k = k; call = call }

-- the calls that first answers answer
abbrev pub first_in : List Answer → List Asked
first_in [] = []
first_in (a ∷ answers) = if a.first then asked_as a.k a.call ∷ first_in answers else first_in answers

-- the call that a step begins: it leaves it open, or answers it at once
abbrev pub begun_as : Option Asked → List Answer → List Asked
begun_as (Some asked) answers = asked ∷ []
begun_as None answers = first_in answers

-- the calls that a host has begun, the oldest first
abbrev pub begun_by : List Step → List Asked
begun_by [] = []
begun_by (s ∷ past) = begun_by past ++ begun_as s.asked s.answers

-- the calls of lines
abbrev pub call_in : Deed → List Call
call_in (MakesCall call) = call ∷ []
call_in _ = []

abbrev pub calls_of : List Line → List Call
calls_of [] = []
calls_of (line ∷ lines) = call_in line.deed ++ calls_of lines

-- numbered one by one
abbrev pub NumberedFrom : ℕ → List Asked → Type 0
NumberedFrom k [] = Unit {0}
NumberedFrom k (asked ∷ more) = (asked.k ≡ k) × NumberedFrom (suc k) more

-- Begun are the calls of the lines that have gone, each once and in their order, and, once all have gone, those that
-- the host makes by itself; their numbers count from 1. Each of these ends the use of a label, and a host that has
-- stopped made none.
pub record BegunByLines (lines : List Line) (past : List Step) : Type 0 where
  pub implied : List Call
  pub calls : map (λ asked. asked.call) (begun_by past) ≡ calls_of (take (lines_gone past) lines) ++ implied
  pub late : (implied ≡ []) ⊎ (lines_gone past ≡ length lines)
  pub numbers : NumberedFrom 1 (begun_by past)
  pub count : calls_begun past ≡ length (begun_by past)
  pub ends : Each IsEnd implied
  pub stopped : HasStopped past → implied ≡ []

abbrev pub CallsAreOfLines : Type 0
CallsAreOfLines = (script : Script) (host : HostId) (past : List Step) → HostRun script host past
    → BegunByLines (lines_of script (Host host)) past

-- In an ended run each host has begun the calls of all its lines, and then those that it makes by itself, which end
-- uses of labels.
abbrev pub EndedRunsBeginAll : Type 0
EndedRunsBeginAll =
    (script : Script) (journal : Journal) (host : HostId) → IsRun script journal → IsEnded script journal
    → TakesPart script (Host host)
    → let begun : List Asked = begun_by (steps_of_host host (past_of journal)) in (implied : List Call)
    × (map (λ asked. asked.call) begun ≡ calls_of (lines_of script (Host host)) ++ implied) × NumberedFrom 1 begun
    × Each IsEnd implied × (HasStopped (steps_of_host host (past_of journal)) → implied ≡ [])
