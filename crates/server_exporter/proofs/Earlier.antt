-- A want that stands before one that is answered: what couldn't be decided then can't be after it.
use Rattle.std.proofs.Common.{◌≡◌, ◌<◌, List, [], ◌∷◌, inl, inr, sym, subst, arith}
use Rattle.token_types.specs.declared.token.Token.{Token}
use Rattle.message_types.specs.declared.message.Message.{Message}
use Rattle.run_rules.specs.Doings.{Doing, Granted, NoGrace, Reserved}
use Rattle.run_rules.specs.Past.{In}
use Rattle.run_rules.specs.Wants.{CanDecide, CanGrant, CanRefuse, Decides, IsBehind, IsQueued, IsQueuedBefore}
use Rattle.run_rules.specs.declared.applied.Wanted.{Wanted}
use Rattle.server_tables.specs.Standing.{Stands}
use Rattle.server_tables.specs.declared.pending.Pending.{Pending}
use Rattle.server_tables.specs.declared.tables.Tables.{Tables}
use Rattle.server_tables.proofs.Alike.{IsInner, granted_inner, heard_inner, pinned_inner, reclaimed_inner, sent_inner}
use Rattle.server_tables.proofs.Alike.{live_both, unwants_inner}
use Rattle.server_exporter.proofs.Making.{as_sent}

-- `m` answers the want `u` alone, and `p` stands before it
module _ (past : List Doing) (x : Tables) (z : Stands past x) (m : Message) (p u : Pending) (i : In p x.pending)
    (j : In u x.pending) (before : p.number < u.number)
    (only : (v : Wanted) → IsQueued past v → Decides (as_sent m) v.host v.request → v ≡ u.wanted) where
  abbrev a : Doing
  a = as_sent m

  inner : IsInner a
  inner = sent_inner m.host m.epoch m.moves m.body

  -- what waits before it isn't the one that is answered
  other : (v : Wanted) → IsQueuedBefore past v p.wanted → v ≡ u.wanted → ⊥
  other v o e =
      let l = z.wants.order_all u p j i (subst (λ (y : Wanted). IsQueuedBefore past y p.wanted) e o) in
      omega (arith, l, before)

  both_wait : (acts : List Doing) (v w : Wanted) → IsQueuedBefore acts v w → IsQueued acts v × IsQueued acts w
  both_wait [] v w o = absurd o
  both_wait (b ∷ acts) v w o = (o.1, o.2)

  stays : (v : Wanted) → IsQueued past v → (v ≡ u.wanted → ⊥) → IsQueued (a ∷ past) v
  stays v q differs = inr (
    q,
    λ w. elim ((unwants_inner x.server past a inner v).0 w) [
      | inl d ↦ differs (only v q d)
      | inr n ↦ (let e = n.1 in cc)
    ],
  )

  not_it : p.wanted ≡ u.wanted → IsQueued past p.wanted → ⊥
  not_it e q =
      let l = z.wants.order p u i j before in
      let r = z.wants.order_all u p j i (subst (λ (y : Wanted). IsQueuedBefore past y p.wanted) e
      (subst (λ (y : Wanted). IsQueuedBefore past p.wanted y) (sym e) l)) in
      omega (arith, r, before)

  behind : IsBehind past p.wanted → IsBehind (a ∷ past) p.wanted
  behind b =
      let q = both_wait past b.0 p.wanted b.1 in (
        b.0,
        (inr b.1, stays b.0 q.0 (other b.0 b.1), stays p.wanted q.1 (λ e. not_it e q.1)),
        b.2,
      )

  granted : (t : Token) → Granted x.server past t → Granted x.server (a ∷ past) t
  granted t g = (granted_inner x.server past a inner t).1 (inr g)

  reserved : (t : Token) → Reserved past t → Reserved (a ∷ past) t
  reserved t r = absurd (z.tokens.none_reserved t r)

  over : NoGrace (a ∷ past) → NoGrace past
  over o h l = elim ((reclaimed_inner x.server past a inner h).0
      (o h ((live_both x.server (a ∷ past) past (heard_inner x.server past a inner) h).1 l))) [
        | inl q ↦ absurd (let e = q.1 in cc)
        | inr q ↦ q
      ]

  pub grant_was : CanGrant x.server (a ∷ past) p.wanted → CanGrant x.server past p.wanted
  grant_was g = record {
    over = over g.over;
    free = λ t h. g.free t (elim h [ inl k ↦ inl (granted t k) | inr k ↦ inr (reserved t k) ]);
    first = λ b. g.first (behind b);
  }

  pub refuse_was : CanRefuse x.server (a ∷ past) p.wanted → CanRefuse x.server past p.wanted
  refuse_was g = record {
    over = over g.over;
    pinned = (g.pinned.0, (pinned_inner x.server past a inner g.pinned.0).0 g.pinned.1, g.pinned.2);
    first = λ b. g.first (behind b);
  }

  pub decide_was : CanDecide x.server (a ∷ past) p.wanted → CanDecide x.server past p.wanted
  decide_was (inl g) = inl (grant_was g)
  decide_was (inr g) = inr (refuse_was g)
