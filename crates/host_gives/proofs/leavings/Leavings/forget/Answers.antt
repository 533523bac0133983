use Rattle.std.proofs.Common.{List, ap, filter, not, ◌∙◌}
use Rattle.lru.specs.LruCache.{LruCache}
use Rattle.token_types.specs.declared.token.Token.{Token}
use Rattle.host_gives.specs.Leavings.{GiveKey, is_by, leaving_in}
use Rattle.host_gives.proofs.Left.{gone_by}
use Rattle.host_gives.proofs.leavings.Leavings.forget.Goals as goal

pub invariant_of-self : goal.invariant_of-self
invariant_of-self c =
    ap (λ (l : LruCache GiveKey (List Token)). l.cap) c.pop.ensures.entries ∙ c.self.invariant

pub returns : goal.returns
returns c =
    ap (λ (l : LruCache GiveKey (List Token)). leaving_in l.entries) c.pop.ensures.entries
    ∙ gone_by c.args.fileset c.args.number c.self.inside.by_give.entries c.len-count.ensures.valid.0
    ∙ ap (filter (λ left. not (is_by c.args.fileset c.args.number left))) c.self.view_is
