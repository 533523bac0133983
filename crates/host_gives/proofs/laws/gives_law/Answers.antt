use Rattle.host_gives.proofs.Adding.{adds, takes_out, takes_any}
use Rattle.host_gives.proofs.laws.gives_law.Goals as goal

pub returns-clause-adds : goal.returns-clause-adds
returns-clause-adds c = adds

pub returns-clause-takes_out : goal.returns-clause-takes_out
returns-clause-takes_out c = takes_out

pub returns-clause-takes_any : goal.returns-clause-takes_any
returns-clause-takes_any c = takes_any
