use Rattle.tree_filesets.proofs.Starts as lemmas
use Rattle.tree_filesets.proofs.laws.starts_well_formed.Goals as goal

pub returns : goal.returns
returns c = lemmas.starts_well_formed
