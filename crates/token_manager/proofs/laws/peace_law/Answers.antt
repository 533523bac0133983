use Rattle.token_manager.proofs.Peace.{peace_through_ask, peace_through_ready, peace_through_admit, peace_through_loss}
use Rattle.token_manager.proofs.laws.peace_law.Goals as goal

pub returns-clause-ask : goal.returns-clause-ask
returns-clause-ask c = peace_through_ask

pub returns-clause-ready : goal.returns-clause-ready
returns-clause-ready c = peace_through_ready

pub returns-clause-admit : goal.returns-clause-admit
returns-clause-admit c = peace_through_admit

pub returns-clause-loss : goal.returns-clause-loss
returns-clause-loss c = peace_through_loss
