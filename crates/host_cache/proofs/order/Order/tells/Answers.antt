use Rattle.std.proofs.Common.{◌∙◌, ap, false}
use Rattle.std.specs.Option.{option_map_or}
use Rattle.host_cache.specs.declared.held.Held.{Held}
use Rattle.host_cache.specs.Holding.{tells_at}
use Rattle.host_cache.proofs.Ordering.{looked}
use Rattle.host_cache.proofs.order.Order.tells.Goals as goal

pub returns-in-Some : goal.returns-in-Some
returns-in-Some c =
    ap (λ o. option_map_or (λ (h : Held). h.tells) o false)
    (c.in-Some.ensures ∙ looked c.self.inside.entries c.self.invariant c.args.id c.id_key.result c.id_key.ensures)
    ∙ ap (λ v. tells_at v c.args.id) c.self.view_is

pub returns-in-None : goal.returns-in-None
returns-in-None c =
    ap (λ o. option_map_or (λ (h : Held). h.tells) o false)
    (c.in-None.ensures ∙ looked c.self.inside.entries c.self.invariant c.args.id c.id_key.result c.id_key.ensures)
    ∙ ap (λ v. tells_at v c.args.id) c.self.view_is
