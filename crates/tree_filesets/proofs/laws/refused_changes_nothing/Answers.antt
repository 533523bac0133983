use Rattle.tree_filesets.proofs.Refusals as lemmas
use Rattle.tree_filesets.proofs.laws.refused_changes_nothing.Goals as goal

pub returns : goal.returns
returns c = lemmas.refused_changes_nothing
