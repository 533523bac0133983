use Rattle.tree_laws.proofs.Writes.{writes_change_their_spans}
use Rattle.tree_laws.proofs.laws.write_law.Goals as goal

pub returns : goal.returns
returns c = writes_change_their_spans
