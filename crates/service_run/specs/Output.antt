-- What is written of a run.
use Rattle.std.specs.Prelude.{◌≡◌, ◌⊎◌, ℕ, Bool, true, if◌then◌else◌, List, ◌++◌}
use Rattle.base_types.specs.Faults.{RoseBy}
use Rattle.base_io.specs.Whole.{IsAppendedInPart}
use Rattle.script_lines.specs.declared.script.Script.{Script}
use Rattle.script_output.specs.Printed.{printed}
use Rattle.script_output.specs.Summary.{printed_json}
use Rattle.script_commands.specs.declared.command.Play.{Play}
use Rattle.script_commands.specs.declared.command.Play.TheVariants.{Run, Gen}
use Rattle.service_run.specs.declared.outcome.Status.{Status}
use Rattle.service_run.specs.declared.outcome.Status.TheVariants.{Done, NoOutput, NoMemory}
use Rattle.service_run.specs.Courses.{history_in, start_in}
use Rattle.service_run.specs.declared.outcome.Course.{Course}
use Rattle.service_run.specs.World.{Shown}

-- whether a command writes JSON
abbrev pub is_json : Play → Bool
is_json (Run json workers disks) = json
is_json (Gen seed hosts calls workers) = true

-- the output of a run
abbrev pub output_of : Play → Script → Course → List ℕ
output_of play script course =
    if is_json play then printed_json script (start_in course) (history_in course)
    else printed script (start_in course) (history_in course)

-- a line was written: the whole of it, or, where the sink failed, a part of it, from its front
abbrev pub Wrote : {told : Type 0} → List ℕ → Shown told → Shown told → Type 0
Wrote line before after =
    (after.bytes ≡ before.bytes ++ line)
    ⊎ (IsAppendedInPart before.bytes line after.bytes × RoseBy 1 before.faults after.faults)

-- the output of a run was written, by the status: the whole of it; a part of it, from its front, where the sink failed;
-- nothing
pub record HasPrinted {told : Type 0} (output : List ℕ) (status : Status) (before after : Shown told) : Type 0 where
  pub all : told → status ≡ Done → after.bytes ≡ before.bytes ++ output
  pub part : told → status ≡ NoOutput → IsAppendedInPart before.bytes output after.bytes
  pub nothing : told → status ≡ NoMemory → after.bytes ≡ before.bytes
  pub failed : status ≡ NoOutput → RoseBy 1 before.faults after.faults
