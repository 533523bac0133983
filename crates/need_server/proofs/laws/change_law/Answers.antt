use Rattle.need_server.proofs.Alike.{names_change_alike, changes_are_alike}
use Rattle.need_server.proofs.laws.change_law.Goals as goal

pub returns : goal.returns
returns c = record { names = names_change_alike; wanted = changes_are_alike }
