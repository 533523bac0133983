use Rattle.run_stores.proofs.Steps as lemmas
use Rattle.run_stores.proofs.laws.step_law.Goals as goal

pub returns-clause-steps : goal.returns-clause-steps
returns-clause-steps c = lemmas.steps_are_kept

pub returns-clause-all : goal.returns-clause-all
returns-clause-all c = lemmas.stores_stand

pub returns-clause-end : goal.returns-clause-end
returns-clause-end c = lemmas.stores_end

pub returns-clause-begun : goal.returns-clause-begun
returns-clause-begun c = lemmas.begun_stores_end
