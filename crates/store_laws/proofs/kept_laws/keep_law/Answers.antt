use Rattle.store_laws.proofs.Exact as lemmas
use Rattle.store_laws.proofs.kept_laws.keep_law.Goals as goal

pub returns : goal.returns
returns c = lemmas.stores_keep_exactly
