-- The output of a run as one line of JSON.
use Rattle.std.specs.Prelude.{ℕ, Bool, true, false, List, [], ◌++◌, length, count_by, is_some, codes, decimal}
use Rattle.std.specs.List.{join_by}
use Rattle.json.specs.Print.{quoted as json_string}
use Rattle.tree_calls.specs.declared.entry.Entry.{Entry}
use Rattle.tree_calls.specs.declared.reply.Reply.{Reply}
use Rattle.tree_calls.specs.declared.reply.Reply.TheVariants.{Refused}
use Rattle.tree_objects.specs.declared.content.Anode.{Anode}
use Rattle.tree_filesets.specs.declared.fileset.Fileset.{Fileset}
use Rattle.tree_answers.specs.declared.tree.Tree.{Tree}
use Rattle.tree_answers.specs.Histories.{after_history}
use Rattle.script_words.specs.Spelling.{spelled_bytes}
use Rattle.script_lines.specs.declared.script.Script.{Script}
use Rattle.script_output.specs.declared.report.Answer.{Answer}
use Rattle.script_output.specs.declared.report.Report.{Report}
use Rattle.script_output.specs.Reports.{by_server, report_of}

-- how many objects a fileset has
abbrev pub objects_of : List Anode → ℕ
objects_of anodes = count_by (λ anode. is_some anode.object) anodes

-- What is told of a fileset. Its name is a JSON string of what the text form has between quotes.
unfoldable pub fileset_json : Fileset → List ℕ
fileset_json fileset =
    codes "{\"name\":" ++ json_string (spelled_bytes fileset.name [])
    ++ codes ",\"objects\":" ++ decimal (objects_of fileset.anodes)
    ++ codes ",\"server\":" ++ decimal fileset.server.0 ++ codes "}"

-- whether a reply is a refusal
abbrev pub is_refused : Reply → Bool
is_refused (Refused refusal) = true
is_refused _ = false

-- how many calls are refused
abbrev pub refused_calls : List Answer → ℕ
refused_calls answers = count_by (λ answer. is_refused answer.reply) answers

-- what a run tells, as JSON: the calls, the filesets by server and id, the losses, and the calls that are refused
unfoldable pub report_json : Report → List Fileset → List ℕ
report_json report filesets =
    codes "{\"calls\":" ++ decimal (length report.answers)
    ++ codes ",\"filesets\":[" ++ join_by fileset_json (codes ",") (by_server filesets)
    ++ codes "],\"lost\":" ++ decimal (length report.losses)
    ++ codes ",\"refused\":" ++ decimal (refused_calls report.answers) ++ codes "}"

-- the line
abbrev pub json_of_report : Report → List Fileset → List ℕ
json_of_report report filesets = report_json report filesets ++ codes "\n"

-- the output of a script that is run from a tree on with a history
abbrev pub printed_json : Script → Tree → List Entry → List ℕ
printed_json script start history =
    json_of_report (report_of script start history) (after_history start history).filesets
