use Rattle.token_manager.proofs.Revoking.{waits_just_where, grants_in_peace}
use Rattle.token_manager.proofs.laws.wait_law.Goals as goal

pub returns-clause-waits : goal.returns-clause-waits
returns-clause-waits c = waits_just_where

pub returns-clause-peace : goal.returns-clause-peace
returns-clause-peace c = grants_in_peace
