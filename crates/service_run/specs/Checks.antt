-- How a check of disks ends.
use Rattle.std.specs.Prelude.{◌≡◌, ⊤, ℕ, ◌++◌, Bool, true, false, List, length, map, Option, Some, None}
use Rattle.script_commands.specs.declared.command.Command.{Command}
use Rattle.script_commands.specs.declared.command.Command.TheVariants.{Check}
use Rattle.base_types.specs.Faults.{RoseBy}
use Rattle.base_types.specs.View.{View}
use Rattle.base_io.specs.Whole.{IsAppendedInPart}
use Rattle.disk_report.specs.Disks.{AreQuiet, IsFailing}
use Rattle.disk_report.specs.Report.{report_of, have_faults}
use Rattle.disk_report.specs.Text.{report_text, failed_line}
use Rattle.disk_report.specs.declared.report.Report.{Report}
use Rattle.service_run.specs.declared.outcome.Outcome.{Outcome}
use Rattle.service_run.specs.declared.outcome.Status.{Status}
use Rattle.service_run.specs.declared.outcome.Status.TheVariants.{Done, NoOutput, NoDisk, NoMemory, HasFaults}
use Rattle.service_run.specs.Outcomes.{is_end_of_check, IsEmpty}
use Rattle.service_run.specs.Output.{Wrote}
use Rattle.service_run.specs.World.{Shown}

abbrev pub is_check : Option Command → Bool
is_check (Some (Check workers)) = true
is_check _ = false

-- there are as many disks as the words name, where they are in the grammar
abbrev pub AreNamed : Option (List (List ℕ)) → ℕ → Type 0
AreNamed None count = ⊤
AreNamed (Some names) count = count ≡ length names

-- whether the reports of all disks were written
abbrev pub has_told : Status → Bool
has_told Done = true
has_told HasFaults = true
has_told _ = false

-- The reports of disks were written, by the status: all, where no disk has a fault, and where one has; a part, from
-- the front, where the sink failed; nothing.
pub record TellsSo {told : Type 0} (reports : List Report) (status : Status) (before after : Shown told) : Type 0 where
  pub sound : status ≡ Done → have_faults reports ≡ false
  pub faulty : status ≡ HasFaults → have_faults reports ≡ true
  pub all : told → has_told status ≡ true → after.bytes ≡ before.bytes ++ report_text reports
  pub part : told → status ≡ NoOutput → IsAppendedInPart before.bytes (report_text reports) after.bytes
  pub failed : status ≡ NoOutput → RoseBy 1 before.faults after.faults
  pub nothing : told → status ≡ NoMemory → after.bytes ≡ before.bytes

-- a disk failed twice, and a line says which
pub record IsDiskRefused {D told : Type 0}
    (view : D → View) (old new : List D) (before after : Shown told) : Type 0 where
  pub number : ℕ
  pub failing : IsFailing view old new number
  pub wrote : told → Wrote (failed_line number) before after

-- What came of a check of disks. No disk was written to, and there is no run. What is told of disks that tell their
-- bytes is what these hold.
pub record ChecksSo {D writes : Type 0}
    (tells : Type 0) (view : D → View) (outcome : Outcome)
    (old new : List D) (before after : Shown writes) : Type 0 where
  pub ends : is_end_of_check outcome.status ≡ true
  pub empty : IsEmpty outcome
  pub quiet : AreQuiet view old new
  pub reports : List Report
  pub had : tells → reports ≡ map (λ disk. report_of (view disk).image) old
  pub told : TellsSo reports outcome.status before after
  pub refused : outcome.status ≡ NoDisk → IsDiskRefused view old new before after
