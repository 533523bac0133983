use Rattle.need_host.proofs.Ends.{all_walks_end}
use Rattle.need_host.proofs.laws.walk_law.Goals as goal

pub returns : goal.returns
returns c = all_walks_end
