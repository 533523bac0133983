use Rattle.std.proofs.Common.{ap, ◌∙◌}
use Rattle.std.specs.List.{find}
use Rattle.host_cache.specs.Holding.{is_id, without_id}
use Rattle.host_cache.proofs.Ordering.{looked, popped}
use Rattle.host_cache.proofs.order.Order.take.Goals as goal

pub invariant_of-self : goal.invariant_of-self
invariant_of-self c =
    (popped c.self.inside.entries c.self.invariant c.args.id c.id_key.result c.id_key.ensures c.pop.new.self
    c.len-count.ensures.valid.0 c.pop.ensures.entries).0

pub returns-clause-taken : goal.returns-clause-taken
returns-clause-taken c =
    c.pop.ensures.value ∙ looked c.self.inside.entries c.self.invariant c.args.id c.id_key.result c.id_key.ensures
    ∙ ap (find (is_id c.args.id)) c.self.view_is

pub returns-clause-left : goal.returns-clause-left
returns-clause-left c =
    (popped c.self.inside.entries c.self.invariant c.args.id c.id_key.result c.id_key.ensures c.pop.new.self
    c.len-count.ensures.valid.0 c.pop.ensures.entries).1 ∙ ap (without_id c.args.id) c.self.view_is
