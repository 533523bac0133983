use Rattle.disk_image_laws.proofs.Faultless.{faultless_keeps, faultless_in_order}
use Rattle.disk_image_laws.proofs.object_laws.faultless_law.Goals as goal

pub returns-clause-keeps : goal.returns-clause-keeps
returns-clause-keeps c = λ disk clean bytes. faultless_keeps disk clean bytes

pub returns-clause-order : goal.returns-clause-order
returns-clause-order c = λ disk clean. faultless_in_order disk clean
