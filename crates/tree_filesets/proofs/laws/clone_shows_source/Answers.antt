use Rattle.tree_filesets.proofs.Clones as lemmas
use Rattle.tree_filesets.proofs.laws.clone_shows_source.Goals as goal

pub returns : goal.returns
returns c = lemmas.clone_shows_source
