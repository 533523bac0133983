use Rattle.token_manager.proofs.Readying.{ask_makes_none_ready, ask_makes_none_wanted, grant_makes_none_ready}
use Rattle.token_manager.proofs.laws.ready_law.Goals as goal

pub returns-clause-asked : goal.returns-clause-asked
returns-clause-asked c = ask_makes_none_ready

pub returns-clause-wanted : goal.returns-clause-wanted
returns-clause-wanted c = ask_makes_none_wanted

pub returns-clause-granted : goal.returns-clause-granted
returns-clause-granted c = grant_makes_none_ready
