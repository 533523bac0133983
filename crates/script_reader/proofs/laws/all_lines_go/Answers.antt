use Rattle.script_reader.proofs.Passes.{all_go}
use Rattle.script_reader.proofs.laws.all_lines_go.Goals as goal

pub returns : goal.returns
returns c = all_go
