use Rattle.std.proofs.Common.{◌<◌, ◌^◌, ◌++◌, List, ℕ, ap, map, subst, sym, ◌∙◌}
use Rattle.lru.specs.LruCache.{LruCache}
use Rattle.token_types.specs.declared.token.Token.{Token}
use Rattle.host_gives.specs.Leavings.{GiveKey, leaving_by, leaving_in}
use Rattle.host_gives.proofs.Left.{put_more}
use Rattle.host_gives.proofs.leavings.Leavings.add.Goals as goal

pub invariant_of-self-2 : goal.invariant_of-self-2
invariant_of-self-2 c =
    ap (λ (l : LruCache GiveKey (List Token)). l.cap) c.in_ok-put.ensures.entries ∙ c.self.invariant

pub returns-clause-after : goal.returns-clause-after
returns-clause-after c =
    ap (λ (l : LruCache GiveKey (List Token)). leaving_in l.entries) c.in_ok-put.ensures.entries
    ∙ ap leaving_in (put_more c.self.inside.by_give (c.args.fileset.0, c.args.number) c.in_ok-tokens.tokens
    c.self.invariant (subst (λ (n : ℕ). n < 2 ^ 63) c.len-count.ensures.len c.len-count.ensures.fits)
    (sym c.contains.ensures ∙ c.if-contains.false))
    ∙ (λ i. c.self.view_is i
    ++ map (leaving_by c.args.fileset c.args.number) (c.in_ok-tokens.ensures i))
