use Rattle.disk_objects.proofs.Staying.{holds_kept}
use Rattle.disk_objects.proofs.laws.kept_holds.Goals as goal

pub returns : goal.returns
returns c = λ anodes blocks old new before after held pages same. holds_kept anodes blocks old new before after held pages same
