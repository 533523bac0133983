use Rattle.run_stores.proofs.Stands as lemmas
use Rattle.run_stores.proofs.laws.stand_law.Goals as goal

pub returns : goal.returns
returns c = lemmas.acts_stand
