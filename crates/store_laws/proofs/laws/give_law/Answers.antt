use Rattle.store_laws.proofs.Gives as lemmas
use Rattle.store_laws.proofs.laws.give_law.Goals as goal

pub returns : goal.returns
returns c = lemmas.gives_are_stores
