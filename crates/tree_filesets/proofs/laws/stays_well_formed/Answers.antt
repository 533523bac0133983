use Rattle.tree_filesets.proofs.StaysWellFormed as lemmas
use Rattle.tree_filesets.proofs.laws.stays_well_formed.Goals as goal

pub returns : goal.returns
returns c = lemmas.stays_well_formed
