use Rattle.script_reader.proofs.Later.{later_changes_nothing}
use Rattle.script_reader.proofs.laws.later_lines_change_nothing.Goals as goal

pub returns : goal.returns
returns c = later_changes_nothing
