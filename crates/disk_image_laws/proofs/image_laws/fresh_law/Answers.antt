use Rattle.disk_image_laws.proofs.Fresh.{fresh_none, count_is_told}
use Rattle.disk_image_laws.proofs.image_laws.fresh_law.Goals as goal

pub returns-clause-none : goal.returns-clause-none
returns-clause-none c = fresh_none

pub returns-clause-count : goal.returns-clause-count
returns-clause-count c = count_is_told
