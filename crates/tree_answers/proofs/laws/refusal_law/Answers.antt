use Rattle.tree_answers.proofs.Refusals.{refused_call}
use Rattle.tree_answers.proofs.laws.refusal_law.Goals as goal

pub returns : goal.returns
returns c = refused_call
