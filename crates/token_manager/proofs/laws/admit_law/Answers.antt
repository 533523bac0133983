use Rattle.token_manager.proofs.Admitting.{admits_each_once, admits_unpinned}
use Rattle.token_manager.proofs.laws.admit_law.Goals as goal

pub returns-clause-once : goal.returns-clause-once
returns-clause-once c = admits_each_once

pub returns-clause-unpinned : goal.returns-clause-unpinned
returns-clause-unpinned c = admits_unpinned
