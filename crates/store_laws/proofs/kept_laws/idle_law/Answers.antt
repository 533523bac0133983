use Rattle.store_laws.proofs.Idle as lemmas
use Rattle.store_laws.proofs.kept_laws.idle_law.Goals as goal

pub returns : goal.returns
returns c = lemmas.idles_are_kept
