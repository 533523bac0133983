-- What an outcome of the top call says.
use Rattle.std.specs.Prelude.{◌≡◌, ◌⊎◌, ℕ, Bool, true, false, not, List, [], Option, Some, None, Ok, Err}
use Rattle.base_types.specs.Faults.{RoseBy}
use Rattle.service_run.specs.Courses.{HasRunSo, no_roster}
use Rattle.service_run.specs.declared.outcome.Course.{Course}
use Rattle.service_run.specs.declared.outcome.Course.TheVariants.{Empty}
use Rattle.script_lines.specs.declared.script.Script.{Script}
use Rattle.script_reader.specs.declared.refused.ScriptRefused.{ScriptRefused}
use Rattle.script_commands.specs.declared.command.Command.{Command}
use Rattle.script_commands.specs.declared.command.Command.TheVariants.{Play as Plays, Check}
use Rattle.script_commands.specs.declared.command.Play.{Play}
use Rattle.service_run.specs.declared.outcome.Status.{Status}
use Rattle.service_run.specs.declared.outcome.Status.TheVariants.{
  Done,
  NoCommand,
  NoScript,
  NoInput,
  NoOutput,
  NoDisk,
  NoAggregate,
  NoMemory,
  HasFaults,
  Stuck,
}
use Rattle.service_run.specs.declared.outcome.Outcome.{Outcome}
use Rattle.service_run.specs.Lines.{input_line, refusal_line}
use Rattle.service_run.specs.Output.{output_of, Wrote, HasPrinted}
use Rattle.service_run.specs.Scripts.{IsRead}
use Rattle.service_run.specs.World.{Shown, World}

abbrev pub code_of : Status → ℕ
code_of Done = 0
code_of NoCommand = 1
code_of NoScript = 2
code_of NoInput = 3
code_of NoOutput = 4
code_of NoDisk = 5
code_of NoAggregate = 6
code_of NoMemory = 7
code_of HasFaults = 8
code_of Stuck = 9

-- whether a script ran
abbrev pub has_run : Status → Bool
has_run Done = true
has_run NoOutput = true
has_run _ = false

-- whether a script can end so that is sound
abbrev pub is_end_of_run : Status → Bool
is_end_of_run NoMemory = true
is_end_of_run NoDisk = true
is_end_of_run NoAggregate = true
is_end_of_run Stuck = true
is_end_of_run status = has_run status

-- whether it ends so only once it has reached the disks
abbrev pub has_reached : Status → Bool
has_reached NoDisk = true
has_reached NoAggregate = true
has_reached Stuck = true
has_reached status = has_run status

-- whether a check of disks can end so where none of them fails
abbrev pub is_end_of_report : Status → Bool
is_end_of_report Done = true
is_end_of_report HasFaults = true
is_end_of_report NoOutput = true
is_end_of_report NoMemory = true
is_end_of_report _ = false

-- and where one may
abbrev pub is_end_of_check : Status → Bool
is_end_of_check NoDisk = true
is_end_of_check status = is_end_of_report status

-- whether only a check of disks can end so
abbrev pub is_of_check : Status → Bool
is_of_check HasFaults = true
is_of_check _ = false

-- how a run can end by its words: want of memory can always be, and `NoCommand` is exactly where they aren't in the
-- grammar
abbrev pub may_end : Option Command → Status → Bool
may_end command NoMemory = true
may_end None NoCommand = true
may_end None _ = false
may_end (Some command) NoCommand = false
may_end (Some (Plays play)) status = not (is_of_check status)
may_end (Some (Check workers)) status = is_end_of_check status

-- the script of an outcome without a run
abbrev pub no_script : Script
no_script = record { servers = 0; roster = no_roster; setup = []; plan = []; net = None; lines = [] }

-- nothing ran
pub record IsEmpty (outcome : Outcome) : Type 0 where
  pub course : outcome.course ≡ Empty
  pub lines : outcome.lines ≡ no_script

-- a script ran, and the sink got the output, or a part of it; or a disk is no aggregate, or failed; or a run came to no
-- end; or memory ran out
pub record RanSo {told : Type 0} (tells : Type 0)
    (play : Play) (script : Script) (outcome : Outcome) (before after : Shown told) : Type 0 where
  pub ends : is_end_of_run outcome.status ≡ true
  pub lines : has_run outcome.status ≡ true → outcome.lines ≡ script
  pub went : has_run outcome.status ≡ true → HasRunSo tells outcome.lines outcome.course
  pub printed : HasPrinted (output_of play outcome.lines outcome.course) outcome.status before after
  pub empty : has_run outcome.status ≡ false → IsEmpty outcome

-- of a script that ran so the sink got the output, or a part of it; or memory ran out
pub record IsToldSo {told : Type 0} (play : Play) (script : Script) (course : Course) (outcome : Outcome)
    (before after : Shown told) : Type 0 where
  pub ends : (has_run outcome.status ≡ true) ⊎ (outcome.status ≡ NoMemory)
  pub own : has_run outcome.status ≡ true → outcome.course ≡ course
  pub lines : has_run outcome.status ≡ true → outcome.lines ≡ script
  pub printed : HasPrinted (output_of play outcome.lines outcome.course) outcome.status before after
  pub empty : has_run outcome.status ≡ false → IsEmpty outcome

-- nothing ran, and a line says why; or memory ran out
pub record RefusedSo {told : Type 0}
    (status : Status) (line : List ℕ) (outcome : Outcome) (before after : Shown told) : Type 0 where
  pub ends : (outcome.status ≡ status) ⊎ (outcome.status ≡ NoMemory)
  pub wrote : told → outcome.status ≡ status → Wrote line before after
  pub nothing : told → outcome.status ≡ NoMemory → after.bytes ≡ before.bytes
  pub empty : IsEmpty outcome

-- what was read is no script, and a line says where and why
pub record IsRefused {reads writes : Type 0} (play : Play) (before after : World reads writes) : Type 0 where
  pub why : ScriptRefused
  pub read : IsRead before.source play (Err why)
  pub wrote : writes → Wrote (refusal_line why) before.sink after.sink

-- what an outcome says of a script that is to run
pub record EndsSo {reads writes : Type 0} (tells : Type 0)
    (play : Play) (outcome : Outcome) (before after : World reads writes) : Type 0 where
  pub words : may_end (Some (Plays play)) outcome.status ≡ true
  -- a script that ran is the one that was asked for, and went as scripts go, by hosts and servers or on the tree alone;
  -- `NoScript` has a cause in what was read
  pub read : has_run outcome.status ≡ true → IsRead before.source play (Ok outcome.lines)
  pub went : has_run outcome.status ≡ true → HasRunSo tells outcome.lines outcome.course
  pub refused : outcome.status ≡ NoScript → IsRefused play before after
  -- the sink got the output, or a part of it; or the line of a refusal; or nothing
  pub printed : HasPrinted (output_of play outcome.lines outcome.course) outcome.status before.sink after.sink
  pub input : writes → outcome.status ≡ NoInput → Wrote input_line before.sink after.sink
  pub failed : outcome.status ≡ NoInput → RoseBy 1 before.source.faults after.source.faults
