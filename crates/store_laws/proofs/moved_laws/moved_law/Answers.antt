use Rattle.store_laws.proofs.Goes as lemmas
use Rattle.store_laws.proofs.moved_laws.moved_law.Goals as goal

pub returns : goal.returns
returns c = lemmas.moves_go_over
