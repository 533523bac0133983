-- How reports are printed.
use Rattle.std.specs.Prelude.{ℕ, ◌+◌, List, [], ◌∷◌, ◌++◌, codes, decimal, flat_map}
use Rattle.disk_image.specs.Laws.{rule_number}
use Rattle.disk_image.specs.declared.fault.Fault.{Fault}
use Rattle.disk_report.specs.declared.report.Report.{Report}
use Rattle.disk_report.specs.declared.report.Report.TheVariants.{Blank, Faults}

-- the line of a fault of disk K: its place, and the number of its rule
unfoldable pub fault_line : ℕ → Fault → List ℕ
fault_line k fault =
    codes "disk " ++ decimal k ++ codes " " ++ decimal fault.place ++ codes " rule "
    ++ decimal (rule_number fault.rule) ++ codes "\n"

-- the lines of disk K
unfoldable pub disk_lines : ℕ → Report → List ℕ
disk_lines k Blank = codes "disk " ++ decimal k ++ codes " blank" ++ codes "\n"
disk_lines k (Faults []) = codes "disk " ++ decimal k ++ codes " ok" ++ codes "\n"
disk_lines k (Faults faults) = flat_map (fault_line k) faults

-- those of disk K and of all behind it
abbrev pub lines_from : ℕ → List Report → List ℕ
lines_from k [] = []
lines_from k (report ∷ reports) = disk_lines k report ++ lines_from (k + 1) reports

-- the output: the lines of all disks, which are numbered from 1, and then `end`
unfoldable pub report_text : List Report → List ℕ
report_text reports = lines_from 1 reports ++ codes "end\n"

-- the line where disk K fails
unfoldable pub failed_line : ℕ → List ℕ
failed_line k = codes "refused: disk " ++ decimal k ++ codes " failed\n"
