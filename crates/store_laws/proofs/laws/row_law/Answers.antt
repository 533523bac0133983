use Rattle.store_laws.proofs.Rows as lemmas
use Rattle.store_laws.proofs.laws.row_law.Goals as goal

pub returns-clause-rows : goal.returns-clause-rows
returns-clause-rows c = lemmas.stores_answer_as_trees

pub returns-clause-unused : goal.returns-clause-unused
returns-clause-unused c = lemmas.unused_alike
