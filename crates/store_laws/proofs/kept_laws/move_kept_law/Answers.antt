use Rattle.store_laws.proofs.Arrives as lemmas
use Rattle.store_laws.proofs.kept_laws.move_kept_law.Goals as goal

pub returns : goal.returns
returns c = lemmas.moves_are_kept
