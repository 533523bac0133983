use Rattle.std.proofs.Common.{◌<◌, ◌^◌, ℕ, ap, subst, ◌∙◌, ◌∷◌}
use Rattle.host_cache.specs.Holding.{has_id}
use Rattle.host_cache.proofs.Ordering.{pushed}
use Rattle.host_cache.proofs.order.Order.push.Goals as goal

pub invariant_of-self-2 : goal.invariant_of-self-2
invariant_of-self-2 c =
    let new = ap (λ v. has_id v c.args.held.token.id) c.self.view_is ∙ c.requires in
    (pushed c.self.inside.entries c.self.invariant c.args.held c.id_key.result c.id_key.ensures c.put.new.self
    (subst (λ (n : ℕ). n < 2 ^ 63) c.len-count.ensures.len c.len-count.ensures.fits) new c.in_ok-put.ensures.entries).0

pub returns-clause-ok : goal.returns-clause-ok
returns-clause-ok c =
    let new = ap (λ v. has_id v c.args.held.token.id) c.self.view_is ∙ c.requires in
    (pushed c.self.inside.entries c.self.invariant c.args.held c.id_key.result c.id_key.ensures c.put.new.self
    (subst (λ (n : ℕ). n < 2 ^ 63) c.len-count.ensures.len c.len-count.ensures.fits) new
    c.in_ok-put.ensures.entries).1 ∙ ap (λ v. c.args.held ∷ v) c.self.view_is
