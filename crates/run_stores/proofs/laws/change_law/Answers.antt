use Rattle.run_stores.proofs.Changes as lemmas
use Rattle.run_stores.proofs.laws.change_law.Goals as goal

pub returns : goal.returns
returns c = lemmas.changes_are_kept
