use Rattle.store_laws.proofs.KeptGives as lemmas
use Rattle.store_laws.proofs.kept_laws.give_kept_law.Goals as goal

pub returns : goal.returns
returns c = lemmas.writes_are_kept
