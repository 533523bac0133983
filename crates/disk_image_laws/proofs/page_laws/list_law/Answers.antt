use Rattle.disk_image_laws.proofs.Lists.{saved_is_read, read_is_saved}
use Rattle.disk_image_laws.proofs.page_laws.list_law.Goals as goal

pub returns-clause-read : goal.returns-clause-read
returns-clause-read c = saved_is_read

pub returns-clause-saved : goal.returns-clause-saved
returns-clause-saved c = read_is_saved
