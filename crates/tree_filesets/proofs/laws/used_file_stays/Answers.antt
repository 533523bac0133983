use Rattle.tree_filesets.proofs.Stays as lemmas
use Rattle.tree_filesets.proofs.laws.used_file_stays.Goals as goal

pub returns : goal.returns
returns c = lemmas.used_file_stays
