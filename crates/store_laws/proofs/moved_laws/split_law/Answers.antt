use Rattle.store_laws.proofs.Splits as lemmas
use Rattle.store_laws.proofs.moved_laws.split_law.Goals as goal

pub returns : goal.returns
returns c = lemmas.histories_split
