use Rattle.disk_objects.proofs.Calls.{holds_made}
use Rattle.disk_objects.proofs.laws.made_holds.Goals as goal

pub returns : goal.returns
returns c = λ anodes page anode old new before after is held rest free quiet made bare. holds_made anodes page is anode old new before after rest held free quiet made bare
