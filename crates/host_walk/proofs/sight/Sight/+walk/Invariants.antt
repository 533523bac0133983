use Rattle.std.proofs.Common.{length}
use Rattle.host_walk.proofs.sight.Sight.+walk.Given as goal

abbrev pub decreases-walk : goal.decreases-walk
decreases-walk l = length l.path.now
