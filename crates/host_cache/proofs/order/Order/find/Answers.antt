use Rattle.std.proofs.Common.{◌∙◌, ap}
use Rattle.std.specs.List.{find}
use Rattle.host_cache.specs.Holding.{is_id}
use Rattle.host_cache.proofs.Ordering.{looked}
use Rattle.host_cache.proofs.order.Order.find.Goals as goal

pub returns : goal.returns
returns c =
    c.copied.ensures
    ∙ c.peek.ensures ∙ looked c.self.inside.entries c.self.invariant c.args.id c.id_key.result c.id_key.ensures
    ∙ ap (find (is_id c.args.id)) c.self.view_is
