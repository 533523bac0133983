use Rattle.hub_laws.proofs.Apart.{nodes_are_apart}
use Rattle.hub_laws.proofs.Passing.{made_goes_on, made_stays}
use Rattle.hub_laws.proofs.closed_laws.a_pass_goes_on.Goals as goal

pub returns-clause-goes : goal.returns-clause-goes
returns-clause-goes c = made_goes_on

pub returns-clause-stays : goal.returns-clause-stays
returns-clause-stays c = made_stays

pub returns-clause-apart : goal.returns-clause-apart
returns-clause-apart c = nodes_are_apart
