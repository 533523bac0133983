use Rattle.server_keeps.proofs.Repeating as lemmas
use Rattle.server_keeps.proofs.laws.steady_law.Goals as goal

pub returns : goal.returns
returns c = lemmas.acts_are_steady
