use Rattle.std.proofs.Common.{ap, ◌∙◌, is_some}
use Rattle.host_cache.specs.Holding.{has_id, is_id}
use Rattle.host_cache.proofs.Lists.{any_found}
use Rattle.host_cache.proofs.Ordering.{looked}
use Rattle.std.specs.Map.{values_of}
use Rattle.host_cache.proofs.order.Order.holds.Goals as goal

pub returns : goal.returns
returns c =
    c.contains.ensures
    ∙ ap (λ o. is_some o) (looked c.self.inside.entries c.self.invariant c.args.id c.id_key.result c.id_key.ensures)
    ∙ any_found (is_id c.args.id) (values_of c.self.inside.entries.entries)
    ∙ ap (λ v. has_id v c.args.id) c.self.view_is
