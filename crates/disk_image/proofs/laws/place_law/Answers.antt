use Rattle.disk_image.proofs.Places.{all_lie}
use Rattle.disk_image.proofs.laws.place_law.Goals as goal

pub returns : goal.returns
returns c = all_lie
