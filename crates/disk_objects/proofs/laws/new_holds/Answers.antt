use Rattle.disk_objects.proofs.Starting.{holds_new}
use Rattle.disk_objects.proofs.laws.new_holds.Goals as goal

pub returns : goal.returns
returns c = λ blocks pages image blank. holds_new blocks pages image blank
