use Rattle.store_laws.proofs.Whole as lemmas
use Rattle.store_laws.proofs.history_laws.history_law.Goals as goal

pub returns : goal.returns
returns c = lemmas.histories_are_kept
