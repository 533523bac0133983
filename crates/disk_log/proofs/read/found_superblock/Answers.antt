use Rattle.disk_log.proofs.Mounting.{front_found}
use Rattle.disk_log.proofs.read.found_superblock.Goals as goal

pub returns-clause-front : goal.returns-clause-front
returns-clause-front g c = λ told. front_found c.read_superblock.result _ _ (c.in_ok-read.ensures.bytes told) c.read_superblock.ensures.some c.read_superblock.ensures.none
