use Rattle.run_contents.proofs.Alike.{filesets_are_alike}
use Rattle.run_contents.proofs.laws.filesets_are_alike.Goals as goal

pub returns : goal.returns
returns c = filesets_are_alike
