use Rattle.disk_objects.proofs.Calls.{counted_all}
use Rattle.disk_objects.proofs.Few.{few_all}
use Rattle.disk_objects.proofs.laws.asked_holds.Goals as goal

pub returns : goal.returns
returns c = λ anodes page state image is held. (counted_all anodes state image held page is, few_all anodes state image held page is)
