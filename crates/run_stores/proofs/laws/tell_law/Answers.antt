use Rattle.run_stores.proofs.Tells as lemmas
use Rattle.run_stores.proofs.laws.tell_law.Goals as goal

pub returns-clause-tells : goal.returns-clause-tells
returns-clause-tells c = lemmas.tells_are_kept

pub returns-clause-gifts : goal.returns-clause-gifts
returns-clause-gifts c = lemmas.gifts_are_told

pub returns-clause-grants : goal.returns-clause-grants
returns-clause-grants c = lemmas.grants_tell_kept
