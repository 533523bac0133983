use Rattle.disk_image_laws.proofs.Judged.{anodes_are_right}
use Rattle.disk_image_laws.proofs.object_laws.anode_law.Goals as goal

pub returns : goal.returns
returns c = λ disk slots keeps slot low places. anodes_are_right disk slots keeps slot low places
