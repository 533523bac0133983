use Rattle.disk_objects.proofs.Ending.{holds_forced}
use Rattle.disk_objects.proofs.laws.forced_holds.Goals as goal

pub returns : goal.returns
returns c = λ anodes old new many held keeps same. holds_forced anodes old new many held keeps same
