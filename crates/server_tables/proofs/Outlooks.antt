-- What the manager tells of a want that waits is what the rules say of it: whether it can be granted or refused, or
-- has to wait.
use Rattle.std.proofs.Common.{Bool, List, None, Option, Some, [], ap, arith, eqb-true, false, inl, inr, not, refl}
use Rattle.std.proofs.Common.{subst, sym, true, ℕ, ◌&&◌, ◌<◌, ◌==◌, ◌||◌, ◌∙◌, ◌∷◌, ◌≡◌, ◌⊎◌}
use Rattle.std.proofs.lemmas.Bool.{and_from, cases_Bool, false≢true}
use Rattle.std.specs.List.{find}
use Rattle.std.specs.Prelude.{is_none, is_some, nat_lt}
use Rattle.token_types.specs.Conflicts.{blocks, wants_conflict}
use Rattle.token_types.specs.declared.token.Token.{Token}
use Rattle.token_table.specs.Marks.{is_pinned}
use Rattle.token_table.specs.Tables.{near}
use Rattle.token_table.proofs.Nearby.{near_blocks}
use Rattle.token_manager.proofs.Revoking.{any_found}
use Rattle.token_manager.specs.Grants.{is_blocked, is_pinned_ahead, outlook_with, pinned_in_the_way}
use Rattle.token_manager.specs.Managers.{can_decide, is_ready_at, outlook_of, ready_at}
use Rattle.token_manager.specs.Wants.{first_ahead, is_ahead}
use Rattle.token_manager.specs.declared.want.Outlook.TheVariants.{Granted as IsGranted, Refused as IsRefused}
use Rattle.token_manager.specs.declared.want.Outlook.TheVariants.{Waits as HasToWait}
use Rattle.token_manager.specs.declared.want.Want.{Want as WantOf}
use Rattle.run_rules.specs.Doings.{Doing, Granted, NoGrace, Reserved}
use Rattle.run_rules.specs.Past.{In}
use Rattle.run_rules.specs.Wants.{CanDecide, CanGrant, CanRefuse, IsBehind, IsInWay, IsQueued, IsQueuedBefore, asker}
use Rattle.run_rules.specs.declared.applied.Wanted.{Wanted}
use Rattle.server_tables.specs.declared.pending.Pending.{Pending}
use Rattle.server_tables.specs.declared.tables.Tables.{Tables}
use Rattle.server_tables.specs.Standing.{Stands, tokens_of, want_for}
use Rattle.server_tables.specs.Listing.{no_grace}
use Rattle.server_tables.proofs.Fetching.{found_some}
use Rattle.server_tables.proofs.Listed.{in_grace, over_is}
use Rattle.server_tables.proofs.Settling.{any_in, both, finds_pinned, in_any, in_map, is_behind, of_map, pinned_granted}
use Rattle.server_tables.proofs.Settling.{why}

waiting_first : (past : List Doing) (w v : Wanted) → IsQueuedBefore past w v → IsQueued past w
waiting_first [] w v b = absurd b
waiting_first (a ∷ past) w v b = b.1

none_some : {A : Type 0} (o : Option A) → is_none o ≡ true → is_some o ≡ true → ⊥
none_some None e f = false≢true f
none_some (Some x) e f = false≢true e

module _ (past : List Doing) (x : Tables) (z : Stands past x) where
  abbrev queue : List WantOf
  queue = x.tokens.queue

  module _ (over : NoGrace past) (p : Pending) (i : In p x.pending) where
    abbrev want : WantOf
    want = want_for p

    -- no earlier want conflicts
    pub not_behind : is_none (first_ahead queue want) ≡ true → IsBehind past p.wanted → ⊥
    not_behind none b =
        let waits = waiting_first past b.0 p.wanted b.1 in
        let q = z.wants.pending_all b.0 waits in
        let earlier = z.wants.order_all q.0 p q.1 i
        (subst (λ (v : Wanted). IsQueuedBefore past v p.wanted) (sym q.2) b.1) in
        let conflicts : wants_conflict (asker p.wanted) p.wanted.needs (asker q.0.wanted) q.0.wanted.needs ≡ true =
        subst (λ (v : Wanted). wants_conflict (asker p.wanted) p.wanted.needs (asker v) v.needs ≡ true) (sym q.2) b.2 in
        none_some (first_ahead queue want) none
        (found_some (is_ahead want) (want_for q.0) queue
        (subst (In (want_for q.0)) (sym (z.queue.calm over)) (in_map want_for q.0 x.pending q.1))
        (and_from (nat_lt q.0.number p.number)
        (wants_conflict (asker p.wanted) p.wanted.needs (asker q.0.wanted) q.0.wanted.needs)
        (before q.0 earlier) conflicts))
      where
        before : (q : Pending) → q.number < p.number → nat_lt q.number p.number ≡ true
        before q l = grind arith

    pub grants : is_none (first_ahead queue want) ≡ true → is_blocked x.tokens.grants want ≡ false
        → CanGrant x.server past p.wanted
    grants none free = record { over = over; free = unblocked; first = not_behind none }
      where
        unblocked : (t : Token) → Granted x.server past t ⊎ Reserved past t → IsInWay p.wanted t → ⊥
        unblocked t (inl g) b =
            false≢true (sym free ∙ in_any (blocks (asker p.wanted) p.wanted.needs) t (tokens_of x.tokens.grants)
            (z.tokens.granted_all t g) b)
        unblocked t (inr r) b = z.tokens.none_reserved t r

    pub refuses : is_none (first_ahead queue want) ≡ true → is_some (pinned_in_the_way x.tokens.grants want) ≡ true
        → CanRefuse x.server past p.wanted
    refuses none found =
        let any = any_in (λ (t : Token). blocks want.host want.needs t && is_pinned x.tokens.grants.notes t.id)
        (tokens_of x.tokens.grants)
        (sym (any_found (is_pinned_ahead x.tokens.grants.notes want) (near (tokens_of x.tokens.grants) [] want.needs)
        ∙ near_blocks want.host want.needs (λ token. is_pinned x.tokens.grants.notes token.id)
        (tokens_of x.tokens.grants)) ∙ found) in
        let parts = both (blocks want.host want.needs any.0) (is_pinned x.tokens.grants.notes any.0.id) any.2 in
        record {
          over = over;
          pinned = (any.0, z.tokens.pinned any.0 any.1 parts.1, parts.0);
          first = not_behind none;
        }

  -- what can't be decided waits
  pub waits : (p : Pending) → In p x.pending → can_decide x.tokens.grants queue (want_for p) ≡ false
      → CanDecide x.server past p.wanted → ⊥
  waits p i none (inl g) = elim (why x.tokens.grants queue (want_for p) none) [
    | inl e ↦ g.first (is_behind past x.server x.tokens.grants x.stamp x.next queue x.pending z.tokens z.stamps z.wants
        z.queue g.over p i e)
    | inr e ↦ (let b = any_in (blocks (asker p.wanted) p.wanted.needs) (tokens_of x.tokens.grants) e.0 in
        g.free b.0 (inl (z.tokens.granted b.0 b.1)) b.2)
  ]
  waits p i none (inr g) = elim (why x.tokens.grants queue (want_for p) none) [
    | inl e ↦ g.first (is_behind past x.server x.tokens.grants x.stamp x.next queue x.pending z.tokens z.stamps z.wants
        z.queue g.over p i e)
    | inr e ↦ (let u = g.pinned in
        false≢true (sym e.1 ∙ finds_pinned x.tokens.grants (want_for p) u.0
        (z.tokens.granted_all u.0 (pinned_granted past x.server x.tokens.grants x.stamp x.next queue x.pending z.tokens
        z.stamps z.wants z.queue u.0 u.1)) u.2 (z.tokens.pinned_all u.0 u.1)))
  ]

  -- # By number

  -- no two wants that wait have one number
  module _ (single : (p q : Pending) → In p x.pending → In q x.pending → p.number ≡ q.number → p ≡ q) (p : Pending)
      (i : In p x.pending) where
    no_queue : no_grace x.hosts ≡ false → queue ≡ []
    no_queue grace = z.queue.grace (in_grace past x.hosts z.hosts grace)

    -- the want of a number that is found
    record IsReady : Type 0 where
      over : NoGrace past
      free : is_none (first_ahead queue (want_for p)) ≡ true
      can : (not (is_blocked x.tokens.grants (want_for p)) || is_some (pinned_in_the_way x.tokens.grants
          (want_for p))) ≡ true

    abbrev passes : WantOf → Bool
    passes = is_ready_at x.tokens.grants queue p.number

    ready_is : (w : WantOf) → ready_at x.tokens p.number ≡ Some w → (w ≡ want_for p) × IsReady
    ready_is w e = by (no_grace x.hosts) refl
      where
        some : is_none (find passes queue) ≡ false
        some = ap is_none e

        by : (b : Bool) → no_grace x.hosts ≡ b → (w ≡ want_for p) × IsReady
        by false grace = absurd (false≢true (sym some ∙ ap (λ l. is_none (find passes l)) (no_queue grace)))
        by true g =
            let over = over_is past x.hosts z.hosts g in
            let (in_queue, so) = found_is passes queue w e in
            let from = of_map want_for w x.pending (subst (In w) (z.queue.calm over) in_queue) in
            let parts = both (w.number == p.number) (can_decide x.tokens.grants queue w) so in
            let number : from.0.number ≡ p.number =
            ap (λ (v : WantOf). v.number) from.2 ∙ eqb-true w.number p.number parts.0 in
            let same : w ≡ want_for p = sym from.2 ∙ ap want_for (single from.0 p from.1 i number) in
            let can = both (is_none (first_ahead queue (want_for p)))
            (not (is_blocked x.tokens.grants (want_for p)) || is_some (pinned_in_the_way x.tokens.grants (want_for p)))
            (subst (λ (v : WantOf). can_decide x.tokens.grants queue v ≡ true) same parts.1) in
            (same, record { over = over; free = can.0; can = can.1 })
          where
            found_is : (test : WantOf → Bool) (xs : List WantOf) (v : WantOf) → find test xs ≡ Some v
                → In v xs × (test v ≡ true)
            found_is test [] v f = absurd (let q : None ≡ Some v = f in cc)
            found_is test (y ∷ ys) v f = elim (cases_Bool (test y)) [
              | inl h ↦ (let q : Some y ≡ Some v = rw h at f in let r : y ≡ v = cc in (
                inl (sym r),
                ap test (sym r)
                    ∙ h,
              ))
              | inr h ↦ (let r = found_is test ys v (rw h at f) in (inr r.0, r.1))
            ]

    pub outlook_grants : outlook_of x.tokens.grants (ready_at x.tokens p.number) ≡ IsGranted
        → CanGrant x.server past p.wanted
    outlook_grants told = by (ready_at x.tokens p.number) refl told
      where
        at : (o : Option Token) → pinned_in_the_way x.tokens.grants (want_for p) ≡ o → outlook_with o ≡ IsGranted
            → IsReady → CanGrant x.server past p.wanted
        at (Some t) e f r = absurd (let q : IsRefused t ≡ IsGranted = f in cc)
        at None e f r = grants r.over p i r.free (unblocked (is_blocked x.tokens.grants (want_for p)) refl)
          where
            unblocked : (b : Bool) → is_blocked x.tokens.grants (want_for p) ≡ b
                → is_blocked x.tokens.grants (want_for p) ≡ false
            unblocked false g = g
            unblocked true g =
                absurd (false≢true (sym (ap (λ b. not b || is_some (pinned_in_the_way x.tokens.grants (want_for p))) g
                ∙ ap is_some e) ∙ r.can))

        by : (o : Option WantOf) → ready_at x.tokens p.number ≡ o → outlook_of x.tokens.grants o ≡ IsGranted
            → CanGrant x.server past p.wanted
        by None e f = absurd (let q : HasToWait ≡ IsGranted = f in cc)
        by (Some w) e f =
            let (same, r) = ready_is w e in
            at (pinned_in_the_way x.tokens.grants (want_for p)) refl
            (subst (λ (v : WantOf). outlook_with (pinned_in_the_way x.tokens.grants v) ≡ IsGranted) same f) r

    pub outlook_refuses : (t : Token) → outlook_of x.tokens.grants (ready_at x.tokens p.number) ≡ IsRefused t
        → CanRefuse x.server past p.wanted
    outlook_refuses t told = by (ready_at x.tokens p.number) refl told
      where
        at : (o : Option Token) → pinned_in_the_way x.tokens.grants (want_for p) ≡ o → outlook_with o ≡ IsRefused t
            → IsReady → CanRefuse x.server past p.wanted
        at None e f r = absurd (let q : IsGranted ≡ IsRefused t = f in cc)
        at (Some u) e f r = refuses r.over p i r.free (ap is_some e)

        by : (o : Option WantOf) → ready_at x.tokens p.number ≡ o → outlook_of x.tokens.grants o ≡ IsRefused t
            → CanRefuse x.server past p.wanted
        by None e f = absurd (let q : HasToWait ≡ IsRefused t = f in cc)
        by (Some w) e f =
            let (same, r) = ready_is w e in
            at (pinned_in_the_way x.tokens.grants (want_for p)) refl
            (subst (λ (v : WantOf). outlook_with (pinned_in_the_way x.tokens.grants v) ≡ IsRefused t) same f) r

    pub outlook_waits : outlook_of x.tokens.grants (ready_at x.tokens p.number) ≡ HasToWait
        → CanDecide x.server past p.wanted → ⊥
    outlook_waits told can = elim (cases_Bool (can_decide x.tokens.grants queue (want_for p))) [
      | inr none ↦ waits p i none can
      | inl ready ↦ by (ready_at x.tokens p.number) refl told ready
    ]
      where
        over : NoGrace past
        over = elim can [ inl g ↦ g.over | inr g ↦ g.over ]

        waits_not : (o : Option Token) → outlook_with o ≡ HasToWait → ⊥
        waits_not None e = cc
        waits_not (Some t) e = cc

        by : (o : Option WantOf) → ready_at x.tokens p.number ≡ o → outlook_of x.tokens.grants o ≡ HasToWait
            → can_decide x.tokens.grants queue (want_for p) ≡ true → ⊥
        by (Some w) e f ready = waits_not (pinned_in_the_way x.tokens.grants w) f
        by None e f ready =
            false≢true (sym (ap is_some e)
            ∙ found_some (is_ready_at x.tokens.grants queue p.number) (want_for p) queue
            (subst (In (want_for p)) (sym (z.queue.calm over)) (in_map want_for p x.pending i))
            (and_from (p.number == p.number) (can_decide x.tokens.grants queue (want_for p)) (itself p.number) ready))
          where
            itself : (n : ℕ) → (n == n) ≡ true
            itself n = grind arith
