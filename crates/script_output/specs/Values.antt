-- The same line as a JSON value, for private clauses.
use Rattle.std.specs.Prelude.{ℕ, List, [], length, map, codes}
use Rattle.serde_json.specs.Data.{Data, number, unsigned, string, array, object, member, no_members}
use Rattle.serde_json.specs.View.{items_of}
use Rattle.tree_filesets.specs.declared.fileset.Fileset.{Fileset}
use Rattle.script_words.specs.Spelling.{spelled_bytes}
use Rattle.script_output.specs.declared.report.Report.{Report}
use Rattle.script_output.specs.Reports.{by_server}
use Rattle.script_output.specs.Summary.{objects_of, refused_calls}

-- a number as a JSON value
abbrev pub number_value : ℕ → Data
number_value n = number (unsigned n)

-- what is told of a fileset
unfoldable pub fileset_value : Fileset → Data
fileset_value fileset = object
    (member (codes "name") (string (spelled_bytes fileset.name []))
    (member (codes "objects") (number_value (objects_of fileset.anodes))
    (member (codes "server") (number_value fileset.server.0) no_members)))

-- what is told of filesets
abbrev pub fileset_values : List Fileset → List Data
fileset_values filesets = map fileset_value filesets

-- what a run tells
unfoldable pub report_value : Report → List Fileset → Data
report_value report filesets = object
    (member (codes "calls") (number_value (length report.answers))
    (member (codes "filesets") (array (items_of (fileset_values (by_server filesets))))
    (member (codes "lost") (number_value (length report.losses))
    (member (codes "refused") (number_value (refused_calls report.answers)) no_members))))
