use Rattle.hub_board.proofs.Goings.{goes_on}
use Rattle.hub_board.proofs.laws.a_turn_goes_on.Goals as goal

pub returns : goal.returns
returns c = goes_on
