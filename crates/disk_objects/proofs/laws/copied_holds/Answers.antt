use Rattle.disk_objects.proofs.Calls.{holds_copied}
use Rattle.disk_objects.proofs.laws.copied_holds.Goals as goal

pub returns : goal.returns
returns c = λ anodes from page old new before after is_from is apart held rest free made shares writes clear.
    holds_copied anodes from page is_from is apart old new before after rest held free made shares writes clear
