-- The JSON value of a report, as text.
use Rattle.std.proofs.Common.{◌≡◌, true, false, ◌||◌, List, [], ◌∷◌, ◌++◌, refl, ap, append_assoc, codes}
use Rattle.std.specs.List.{flat_map, join_by}
use Rattle.serde_json.specs.View.{items_of}
use Rattle.serde_json.specs.Written.{compact_text, items_text, has_float, items_have_float}
use Rattle.serde_json.proofs.OnLiterals.{serde_json_on_literals}
use Rattle.tree_filesets.specs.declared.fileset.Fileset.{Fileset}
use Rattle.script_output.specs.declared.report.Report.{Report}
use Rattle.script_output.specs.Reports.{by_server}
use Rattle.script_output.specs.Summary.{fileset_json, report_json}
use Rattle.script_output.specs.Values.{fileset_value, fileset_values, report_value}

pub fileset_line : (fileset : Fileset) → compact_text (fileset_value fileset) ≡ fileset_json fileset
unfolding serde_json_on_literals fileset_value fileset_json
fileset_line fileset = simp append_assoc

pub no_float : (fileset : Fileset) → has_float (fileset_value fileset) ≡ false
unfolding fileset_value
no_float fileset = refl

pub no_floats : (filesets : List Fileset) → items_have_float (items_of (fileset_values filesets)) ≡ false
no_floats [] = refl
no_floats (fileset ∷ filesets) = rw (no_float fileset) (no_floats filesets)

-- filesets behind others
pub later_lines : (filesets : List Fileset) → items_text true (items_of (fileset_values filesets)) ≡ flat_map (λ fileset. codes "," ++ fileset_json fileset) filesets ++ codes "]"
later_lines [] = refl
later_lines (fileset ∷ filesets) = rw (fileset_line fileset, later_lines filesets) (simp append_assoc)

pub fileset_lines : (filesets : List Fileset) → items_text false (items_of (fileset_values filesets)) ≡ join_by fileset_json (codes ",") filesets ++ codes "]"
fileset_lines [] = refl
fileset_lines (fileset ∷ filesets) = rw (fileset_line fileset, later_lines filesets) (simp append_assoc)

pub report_float : (report : Report) (filesets : List Fileset) → has_float (report_value report filesets) ≡ false
unfolding report_value
report_float report filesets = ap (λ here. here || false) (no_floats (by_server filesets))

pub report_text : (report : Report) (filesets : List Fileset) →
    compact_text (report_value report filesets) ≡ report_json report filesets
unfolding serde_json_on_literals report_value report_json
report_text report filesets = rw (fileset_lines (by_server filesets)) (simp append_assoc)

pub ruleset report_line = (report_float, report_text)
