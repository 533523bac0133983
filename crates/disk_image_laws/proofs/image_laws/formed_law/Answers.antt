use Rattle.disk_image_laws.proofs.Formed.{formed}
use Rattle.disk_image_laws.proofs.One.{image_is_one}
use Rattle.disk_image_laws.proofs.Treed.{formed_is_reached}
use Rattle.disk_image_laws.proofs.image_laws.formed_law.Goals as goal

pub returns : goal.returns
returns c = record { formed = formed; reached = formed_is_reached; one = image_is_one }
