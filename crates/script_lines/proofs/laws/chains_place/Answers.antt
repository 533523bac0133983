use Rattle.script_lines.proofs.Circles.{chains_place}
use Rattle.script_lines.proofs.laws.chains_place.Goals as goal

pub returns : goal.returns
returns c = chains_place
