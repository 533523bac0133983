use Rattle.need_host.proofs.Updates.{needs_suffice}
use Rattle.need_host.proofs.laws.need_law.Goals as goal

pub returns : goal.returns
returns c = needs_suffice
