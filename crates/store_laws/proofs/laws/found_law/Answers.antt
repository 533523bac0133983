use Rattle.store_laws.proofs.Founds as lemmas
use Rattle.store_laws.proofs.laws.found_law.Goals as goal

pub returns : goal.returns
returns c = lemmas.stores_found_as_trees
