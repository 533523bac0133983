use Rattle.tree_answers.proofs.Moves.{filesets_are_once, moves_are_whole, moves_count}
use Rattle.tree_answers.proofs.laws.move_law.Goals as goal

pub returns-clause-once : goal.returns-clause-once
returns-clause-once c = filesets_are_once

pub returns-clause-whole : goal.returns-clause-whole
returns-clause-whole c = moves_are_whole

pub returns-clause-count : goal.returns-clause-count
returns-clause-count c = moves_count
