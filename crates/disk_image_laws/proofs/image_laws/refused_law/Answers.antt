use Rattle.disk_image_laws.proofs.Mounted.{mounted_is_image, mounted_has_log, first_fault_is_place}
use Rattle.disk_image_laws.proofs.image_laws.refused_law.Goals as goal

pub returns : goal.returns
returns c = record { image = mounted_is_image; log = mounted_has_log; fault = first_fault_is_place }
