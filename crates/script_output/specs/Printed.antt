-- The output of a run as text.
use Rattle.std.specs.Prelude.{ℕ, List, [], ◌++◌, Option, Some, None, flat_map, codes, decimal}
use Rattle.base_types.specs.declared.span.Span.{Span}
use Rattle.tree_calls.specs.declared.entry.Entry.{Entry}
use Rattle.tree_calls.specs.declared.entry.Loss.{Loss}
use Rattle.tree_filesets.specs.declared.fileset.Fileset.{Fileset}
use Rattle.tree_answers.specs.declared.tree.Tree.{Tree}
use Rattle.tree_answers.specs.Histories.{after_history}
use Rattle.script_lines.specs.declared.script.Script.{Script}
use Rattle.script_output.specs.declared.report.Answer.{Answer}
use Rattle.script_output.specs.declared.report.Report.{Report}
use Rattle.script_output.specs.Texts.{word_text, path_of}
use Rattle.script_output.specs.Replies.{reply_text}
use Rattle.script_output.specs.Dump.{fileset_lines}
use Rattle.script_output.specs.Reports.{by_server, report_of}

-- the line of a reply: the host, which of its calls it is, and the reply
unfoldable pub answer_line : Answer → List ℕ
answer_line answer =
    codes "c" ++ decimal answer.host.0
    ++ codes " " ++ decimal answer.k ++ codes " " ++ reply_text answer.reply ++ codes "\n"

-- the bytes that are lost, and the length
unfoldable pub span_text : Option Span → List ℕ
span_text None = []
span_text (Some span) = codes " " ++ decimal span.from ++ codes " " ++ decimal span.to

unfoldable pub length_text : Option ℕ → List ℕ
length_text None = []
length_text (Some len) = codes " length " ++ decimal len

-- the line of a loss: the host, the server, the path, and what is lost
unfoldable pub loss_line : Loss → List ℕ
loss_line loss =
    codes "lost c" ++ decimal loss.host.0
    ++ codes " s" ++ decimal loss.server.0 ++ codes " " ++ word_text (path_of loss.path)
    ++ span_text loss.span ++ length_text loss.length ++ codes "\n"

-- what a run tells and the filesets that it leaves, as text
unfoldable pub text_of_report : Report → List Fileset → List ℕ
text_of_report report filesets =
    flat_map answer_line report.answers
    ++ flat_map loss_line report.losses ++ flat_map fileset_lines (by_server filesets) ++ codes "end\n"

-- the output of a script that is run from a tree on with a history
abbrev pub printed : Script → Tree → List Entry → List ℕ
printed script start history =
    text_of_report (report_of script start history) (after_history start history).filesets
