use Rattle.std.proofs.Common.{subst}
use Rattle.host_cache.specs.Holding.{IsOnce}
use Rattle.host_cache.proofs.Ordering.{once_of}
use Rattle.host_cache.proofs.order.Order.laws.Goals as goal

pub returns : goal.returns
returns c =
    subst IsOnce c.self.view_is (once_of c.self.inside.entries c.self.invariant c.len-count.ensures.valid.0)
