use Rattle.disk_objects.proofs.Staging.{crash_stays}
use Rattle.disk_objects.proofs.laws.crashed_holds.Goals as goal

pub returns : goal.returns
returns c = λ anodes named state image before after k held writes. crash_stays anodes named state image before after k held writes
