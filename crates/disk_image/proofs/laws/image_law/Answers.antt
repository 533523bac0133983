use Rattle.disk_image.proofs.Images.{image_there}
use Rattle.disk_image.proofs.laws.image_law.Goals as goal

pub returns : goal.returns
returns c = image_there
