use Rattle.tree_answers.proofs.Kept.{formed_start, formed_entry}
use Rattle.tree_answers.proofs.laws.well_formed_law.Goals as goal

pub returns-clause-start : goal.returns-clause-start
returns-clause-start c = formed_start

pub returns-clause-entry : goal.returns-clause-entry
returns-clause-entry c = formed_entry
