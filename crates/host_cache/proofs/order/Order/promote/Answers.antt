use Rattle.std.proofs.Common.{ap, ◌∙◌}
use Rattle.host_cache.specs.Holding.{brought}
use Rattle.host_cache.proofs.Ordering.{moved}
use Rattle.host_cache.proofs.order.Order.promote.Goals as goal

pub invariant_of-self : goal.invariant_of-self
invariant_of-self c =
    (moved c.self.inside.entries c.self.invariant c.args.id c.id_key.result c.id_key.ensures c.promote.new.self
    c.len-count.ensures.valid.0 c.promote.ensures.entries).0

pub returns : goal.returns
returns c =
    (moved c.self.inside.entries c.self.invariant c.args.id c.id_key.result c.id_key.ensures c.promote.new.self
    c.len-count.ensures.valid.0 c.promote.ensures.entries).1 ∙ ap (brought c.args.id) c.self.view_is
