use Rattle.store_laws.proofs.Founds as lemmas
use Rattle.store_laws.proofs.laws.left_law.Goals as goal

pub returns : goal.returns
returns c = lemmas.stores_leave_as_trees
