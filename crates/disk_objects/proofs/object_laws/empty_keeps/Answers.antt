use Rattle.disk_objects.proofs.Places.{nothing_kept}
use Rattle.disk_objects.proofs.object_laws.empty_keeps.Goals as goal

pub returns : goal.returns
returns c = nothing_kept
