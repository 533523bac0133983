use Rattle.disk_objects.proofs.Ending.{holds_left}
use Rattle.disk_objects.proofs.laws.left_holds.Goals as goal

pub returns : goal.returns
returns c = λ anodes told generation d c k left first stages. holds_left anodes told generation d c k left first stages
