use Rattle.run_stores.proofs.Gives as lemmas
use Rattle.run_stores.proofs.laws.give_law.Goals as goal

pub returns : goal.returns
returns c = lemmas.gives_are_kept
