use Rattle.script_lines.proofs.Circles.{circles_place_nothing}
use Rattle.script_lines.proofs.laws.circles_place_nothing.Goals as goal

pub returns : goal.returns
returns c = circles_place_nothing
