use Rattle.run_stores.proofs.Notes as lemmas
use Rattle.run_stores.proofs.laws.refusal_law.Goals as goal

pub returns : goal.returns
returns c = lemmas.refusals_are_kept
