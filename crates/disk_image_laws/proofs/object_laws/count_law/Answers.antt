use Rattle.disk_image_laws.proofs.Ordered.{counts_are_right}
use Rattle.disk_image_laws.proofs.object_laws.count_law.Goals as goal

pub returns : goal.returns
returns c = λ disk slots keeps headers anodes p below. counts_are_right disk slots keeps headers anodes p below
