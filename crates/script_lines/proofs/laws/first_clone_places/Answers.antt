use Rattle.script_lines.proofs.Circles.{first_clone_places}
use Rattle.script_lines.proofs.laws.first_clone_places.Goals as goal

pub returns : goal.returns
returns c = first_clone_places
