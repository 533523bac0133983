use Rattle.disk_image.proofs.Front.{superblock_some, superblock_is}
use Rattle.disk_image.proofs.laws.superblock_law.Goals as goal

pub returns : goal.returns
returns c = λ image superblock. (superblock_is image superblock, λ is. superblock_some image superblock is.0 is.1 is.2 is.3)
