use Rattle.need_laws.proofs.Decided.{servers_decide_alike}
use Rattle.need_laws.proofs.Moves.{moves_are_refused_alike}
use Rattle.need_laws.proofs.Refused.{servers_refuse_alike}
use Rattle.need_laws.proofs.laws.kept_law.Goals as goal

pub returns : goal.returns
returns c = record { changes = servers_decide_alike; refusals = servers_refuse_alike; moves = moves_are_refused_alike }
