use Rattle.run_stores.proofs.Numbers as lemmas
use Rattle.run_stores.proofs.Rising as runs
use Rattle.run_stores.proofs.laws.number_law.Goals as goal

pub returns-clause-told : goal.returns-clause-told
returns-clause-told c = lemmas.numbers_are_told

pub returns-clause-rise : goal.returns-clause-rise
returns-clause-rise c = runs.numbers_rise
