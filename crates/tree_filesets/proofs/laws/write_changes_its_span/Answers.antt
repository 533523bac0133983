use Rattle.tree_filesets.proofs.Writes as lemmas
use Rattle.tree_filesets.proofs.laws.write_changes_its_span.Goals as goal

pub returns : goal.returns
returns c = lemmas.write_changes_its_span
