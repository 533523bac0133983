-- What a check finds on a disk.
use Rattle.std.specs.Prelude.{ℕ, ⊤, Bool, true, false, not, ◌==◌, if◌then◌else◌, List, length, IsTrue}
use Rattle.std.specs.List.{list_any}
use Rattle.base_types.specs.Faults.{RoseBy}
use Rattle.base_types.specs.View.{View}
use Rattle.disk_image.specs.Aggregate.{is_blank}
use Rattle.disk_image.specs.Faults.{faults_of}
use Rattle.disk_check.specs.declared.fault.CheckRefused.{CheckRefused}
use Rattle.disk_check.specs.declared.fault.CheckRefused.TheVariants.{Failed, Memory}
use Rattle.disk_report.specs.declared.report.Report.{Report}
use Rattle.disk_report.specs.declared.report.Report.TheVariants.{Blank, Faults}

-- what is found on a disk with these bytes
unfoldable pub report_of : List ℕ → Report
report_of image = if is_blank image then Blank else Faults (faults_of image)

abbrev pub has_faults : Report → Bool
has_faults Blank = false
has_faults (Faults faults) = not (length faults == 0)

-- whether one of the disks has a fault
abbrev pub have_faults : List Report → Bool
have_faults reports = list_any has_faults reports

-- the disk failed twice, the second time at its last call; or memory ran out
abbrev pub FailsTwice : CheckRefused → View → View → Type 0
FailsTwice Failed old new = RoseBy 2 old.faults new.faults × IsTrue new.last_failed
FailsTwice Memory old new = ⊤
