use Rattle.tree_answers.proofs.Worked.{worked_replies}
use Rattle.tree_answers.proofs.laws.worked_law.Goals as goal

pub returns : goal.returns
returns c = worked_replies
