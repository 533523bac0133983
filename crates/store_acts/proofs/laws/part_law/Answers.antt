use Rattle.store_acts.proofs.Told as lemmas
use Rattle.store_acts.proofs.laws.part_law.Goals as goal

pub returns : goal.returns
returns c = lemmas.parts_are_whole
