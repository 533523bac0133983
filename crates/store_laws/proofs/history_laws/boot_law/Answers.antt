use Rattle.store_laws.proofs.Boots as lemmas
use Rattle.store_laws.proofs.history_laws.boot_law.Goals as goal

pub returns : goal.returns
returns c = lemmas.boots_are_kept
