use Rattle.std.proofs.Common.{ap, sym, ◌∙◌, map, refl}
use Rattle.std.specs.Map.{set_value}
use Rattle.lru.specs.LruCache.{lru_cache}
use Rattle.host_cache.specs.Holding.{with_use}
use Rattle.host_cache.proofs.Ordering.{noted, unnoted, key_eq}
use Rattle.host_cache.proofs.order.Order.set_use.Goals as goal

pub returns-in_default : goal.returns-in_default
returns-in_default c =
    sym (unnoted c.self.inside.entries c.self.invariant c.args.id c.id_key.result c.id_key.ensures c.args.in_use
    (sym c.in_default.ensures.value))
    ∙ ap (map (with_use c.args.id c.args.in_use)) c.self.view_is

pub invariant_of-self : goal.invariant_of-self
invariant_of-self c = c.self.invariant

pub invariant_of-self-2 : goal.invariant_of-self-2
invariant_of-self-2 c =
    let s = c.self.inside.entries in
    (noted s c.self.invariant c.args.id c.id_key.result c.id_key.ensures
    (lru_cache (set_value (key_eq c.id_key.result) s.entries (record c.in-Some.held.now { in_use = c.args.in_use }))
    s.cap)
    c.args.in_use c.in-Some.held.now c.len-count.ensures.valid.0 (sym c.in-Some.ensures.value) refl).0

pub returns : goal.returns
returns c =
    let s = c.self.inside.entries in
    (noted s c.self.invariant c.args.id c.id_key.result c.id_key.ensures
    (lru_cache (set_value (key_eq c.id_key.result) s.entries (record c.in-Some.held.now { in_use = c.args.in_use }))
    s.cap)
    c.args.in_use c.in-Some.held.now c.len-count.ensures.valid.0 (sym c.in-Some.ensures.value) refl).1
    ∙ ap (map (with_use c.args.id c.args.in_use)) c.self.view_is
