-- What is told of a journal once a run has ended.
use Rattle.std.specs.Prelude.{ℕ, ◌≡◌, ◌≢◌, ◌++◌}
use Rattle.base_io.specs.Whole.{IsAppendedInPart}
use Rattle.base_types.specs.Faults.{RoseBy}
use Rattle.run_rules.specs.declared.journal.Journal.{Journal}
use Rattle.run_journal.specs.Text.{journal_text}
use Rattle.service_run.specs.declared.outcome.Status.{Status}
use Rattle.service_run.specs.declared.outcome.Status.TheVariants.{NoMemory as OutOfMemory}
use Rattle.service_run.specs.Outcomes.{code_of}
use Rattle.service_run.specs.Output.{Wrote}
use Rattle.service_run.specs.World.{Shown}
use Rattle.dfs_run.specs.Lines.{fault_line}
use Rattle.dfs_run.specs.declared.journal.Ended.{Ended}
use Rattle.dfs_run.specs.declared.journal.Ended.TheVariants.{Ran, NoJournal, NoMemory}

-- the number with which the program ends
abbrev pub ended_code : Ended → ℕ
ended_code (Ran status) = code_of status
ended_code NoJournal = 10
ended_code NoMemory = code_of OutOfMemory

-- the journal of a run with this status went to its file, by how it ended: the whole of it; a part, from its front,
-- where the file failed, and then alone a line says so; nothing
pub record IsToldSo {files told : Type 0} (journal : Journal) (status : Status) (ended : Ended)
    (file after_file : Shown files) (sink after_sink : Shown told) : Type 0 where
  pub own : (other : Status) → ended ≡ Ran other → other ≡ status
  pub all : files → ended ≡ Ran status → after_file.bytes ≡ file.bytes ++ journal_text journal
  pub part : files → ended ≡ NoJournal → IsAppendedInPart file.bytes (journal_text journal) after_file.bytes
  pub failed : ended ≡ NoJournal → RoseBy 1 file.faults after_file.faults
  pub line : told → ended ≡ NoJournal → Wrote fault_line sink after_sink
  pub silent : ended ≢ NoJournal → after_sink ≡ sink
  pub nothing : ended ≡ NoMemory → after_file ≡ file
