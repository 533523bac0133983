use Rattle.store_laws.proofs.KeptFounds as lemmas
use Rattle.store_laws.proofs.kept_laws.found_kept_law.Goals as goal

pub returns : goal.returns
returns c = lemmas.founds_are_kept
