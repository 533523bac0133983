use Rattle.need_host.proofs.Leading.{names_lead_on}
use Rattle.need_host.proofs.laws.name_law.Goals as goal

pub returns : goal.returns
returns c = names_lead_on
