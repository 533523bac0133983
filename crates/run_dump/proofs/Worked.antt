-- What is printed of a fileset, by computation.
use Rattle.std.proofs.Common.{refl}
use Rattle.std.specs.Fmt.{digits}
use Rattle.json.specs.Print.{escape_byte}
use Rattle.script_output.specs.Access.{letters_of, rights_text, who_text}
use Rattle.script_output.specs.Dump.{dir_lists, fileset_head, fileset_lines, head_line, list_line, object_lines, run_line}
use Rattle.script_output.specs.Printed.{text_of_report}
use Rattle.script_output.specs.Reports.{by_server}
use Rattle.script_output.specs.Summary.{fileset_json, report_json}
use Rattle.script_output.specs.Texts.{is_plain, quoted, word_text}
use Rattle.run_dump.specs.Worked.{WorkedDump}

pub worked_dump : WorkedDump
unfolding text_of_report by_server fileset_lines fileset_head object_lines head_line list_line dir_lists run_line digits letters_of rights_text who_text word_text is_plain quoted report_json fileset_json escape_byte
worked_dump = record { text = refl; summary = refl }
