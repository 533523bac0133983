use Rattle.disk_image_laws.proofs.Read.{anode_read, fileset_read}
use Rattle.disk_image_laws.proofs.object_laws.image_law.Goals as goal

pub returns-clause-anode : goal.returns-clause-anode
returns-clause-anode c = λ disk slots keeps slot anode low some few. anode_read disk slots keeps slot anode low some few

pub returns-clause-fileset : goal.returns-clause-fileset
returns-clause-fileset c = λ disk slots keeps slot low few. fileset_read disk slots keeps slot low few
