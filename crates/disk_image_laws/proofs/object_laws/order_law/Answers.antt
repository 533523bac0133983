use Rattle.disk_image_laws.proofs.Orderly.{kept_in_order}
use Rattle.disk_image_laws.proofs.object_laws.order_law.Goals as goal

pub returns : goal.returns
returns c = λ disk slots keeps. kept_in_order disk slots keeps
