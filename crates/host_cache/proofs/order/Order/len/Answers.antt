use Rattle.std.proofs.Common.{List, length, ap, ◌∙◌}
use Rattle.host_cache.specs.declared.held.Held.{Held}
use Rattle.host_cache.proofs.Ordering.{length_values}
use Rattle.host_cache.proofs.order.Order.len.Goals as goal

pub returns : goal.returns
returns c =
    c.len.ensures.len ∙ length_values c.self.inside.entries.entries
    ∙ ap (λ (held : List Held). length held) c.self.view_is
