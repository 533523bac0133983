use Rattle.tree_filesets.proofs.Stays as lemmas
use Rattle.tree_filesets.proofs.laws.stays_itself.Goals as goal

pub returns : goal.returns
returns c = lemmas.stays_itself
