use Rattle.run_stores.proofs.Wanting as lemmas
use Rattle.run_stores.proofs.laws.wants_law.Goals as goal

pub returns : goal.returns
returns c = lemmas.wants_are_told
