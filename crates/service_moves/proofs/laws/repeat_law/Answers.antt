use Rattle.service_moves.proofs.Repeats.{moves_repeat}
use Rattle.service_moves.proofs.laws.repeat_law.Goals as goal

pub returns : goal.returns
returns c = moves_repeat
