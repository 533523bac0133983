use Rattle.disk_image_laws.proofs.Logs.{blocks_have_same_image, log_has_same_image}
use Rattle.disk_image_laws.proofs.same_laws.same_law.Goals as goal

pub returns-clause-log : goal.returns-clause-log
returns-clause-log c = log_has_same_image

pub returns-clause-blocks : goal.returns-clause-blocks
returns-clause-blocks c = blocks_have_same_image
