use Rattle.disk_image_laws.proofs.Reformed.{format_has_same_image}
use Rattle.disk_image_laws.proofs.same_laws.format_law.Goals as goal

pub returns : goal.returns
returns c = format_has_same_image
