use Rattle.disk_objects.proofs.Staging.{holds_staged}
use Rattle.disk_objects.proofs.laws.staged_holds.Goals as goal

pub returns : goal.returns
returns c = λ anodes named old new before after k held rest writes. holds_staged anodes named old new before after k rest held writes
