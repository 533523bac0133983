use Rattle.std.proofs.Common.{◌-◌, ◌/◌, ◌%◌}
use Rattle.disk_objects.proofs.Places.{page_is, kept_here, anode_here}
use Rattle.disk_objects.proofs.object_laws.places_keep.Goals as goal

pub returns-clause-kept : goal.returns-clause-kept
returns-clause-kept c = λ slots slot anode low some few. kept_here slots slot anode low some few

pub returns-clause-page : goal.returns-clause-page
returns-clause-page c = λ slot anode low some few. page_is slot anode low some few

pub returns-clause-place : goal.returns-clause-place
returns-clause-place c = λ p is. (let here = anode_here p is in ((p - 2) / 66, (p - 2) % 66 - 1, here.0, here.1, here.2, here.3))
