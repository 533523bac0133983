use Rattle.store_laws.proofs.Moves as lemmas
use Rattle.store_laws.proofs.laws.move_law.Goals as goal

pub returns : goal.returns
returns c = lemmas.arrives_as_moved
