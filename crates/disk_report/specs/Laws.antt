-- What makes the printed reports believable.
use Rattle.std.specs.Prelude.{◌≡◌, ◌<◌, ◌^◌, ℕ, List, [], ◌∷◌, ◌++◌, codes, flat_map}
use Rattle.disk_image.specs.declared.fault.Fault.{Fault}
use Rattle.disk_image.specs.declared.fault.Rule.TheVariants as rules
use Rattle.disk_report.specs.declared.report.Report.{Report}
use Rattle.disk_report.specs.declared.report.Report.TheVariants.{Blank, Faults}
use Rattle.disk_report.specs.Text.{fault_line, disk_lines, report_text}

-- the header of the first slot is broken, and a count
abbrev pub two_faults : List Fault
two_faults = record { place = 6294016; rule = rules.SlotHeader } ∷ record { place = 6834688; rule = rules.Count } ∷ []

abbrev pub ReportReadsSo : Type 0
ReportReadsSo =
    report_text (Faults two_faults ∷ Blank ∷ Faults [] ∷ [])
    ≡ codes "disk 1 6294016 rule 5\ndisk 1 6834688 rule 11\ndisk 2 blank\ndisk 3 ok\nend\n"

-- each fault has its line, where it stands among the others
abbrev pub LinesStandInOrder : Type 0
LinesStandInOrder =
    (k : ℕ) (before after : List Fault) (fault : Fault) →
    disk_lines k (Faults (before ++ fault ∷ after))
    ≡ flat_map (fault_line k) before ++ fault_line k fault ++ flat_map (fault_line k) after

-- faults with one line are one fault; places fit 64 bits
abbrev pub LineTells : Type 0
LineTells =
    (k : ℕ) (this that : Fault) → this.place < 2 ^ 64 → that.place < 2 ^ 64 →
    fault_line k this ≡ fault_line k that → this ≡ that
