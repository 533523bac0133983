use Rattle.std.proofs.Common.{ap, sym, ◌∙◌, subst}
use Rattle.host_cache.specs.Seen.{Kept, seen, after_set_use, IsKept}
use Rattle.host_cache.proofs.Seeing.{kept, use_kept, use_seen}
use Rattle.host_cache.proofs.cache.Cache.set_use.Goals as goal

pub invariant_of-self : goal.invariant_of-self
invariant_of-self c =
    subst (λ o. IsKept o c.self.inside.files.entries) (sym c.set_use.ensures)
    (use_kept c.args.id c.args.in_use c.self.inside.order c.self.inside.files.entries c.self.invariant)

pub returns : goal.returns
returns c =
    ap (λ o. seen (kept o c.self.inside.files.entries)) c.set_use.ensures
    ∙ use_seen c.args.id c.args.in_use c.self.inside.order c.self.inside.files.entries
    ∙ ap (λ (k : Kept). after_set_use (seen k) c.args.id c.args.in_use) c.self.view_is
