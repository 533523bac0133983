use Rattle.disk_objects.proofs.Ending.{holds_ended}
use Rattle.disk_objects.proofs.laws.ended_holds.Goals as goal

pub returns : goal.returns
returns c = λ anodes old new image slot held whole alone appends. holds_ended anodes old new image slot held whole alone appends
