use Rattle.disk_objects.proofs.Calls.{holds_changed}
use Rattle.disk_objects.proofs.laws.changed_holds.Goals as goal

pub returns : goal.returns
returns c = λ anodes page update old new before after is held rest changed writes bare.
    holds_changed anodes page is update old new before after rest held changed writes bare
