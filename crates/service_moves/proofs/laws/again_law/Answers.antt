use Rattle.service_moves.proofs.Again.{again_changes_nothing, again_adds_nothing, numbers_are_kept}
use Rattle.service_moves.proofs.laws.again_law.Goals as goal

pub returns-clause-whole : goal.returns-clause-whole
returns-clause-whole c = again_changes_nothing

pub returns-clause-part : goal.returns-clause-part
returns-clause-part c = again_adds_nothing

pub returns-clause-kept : goal.returns-clause-kept
returns-clause-kept c = numbers_are_kept
