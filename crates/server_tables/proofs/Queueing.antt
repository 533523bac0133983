-- A request makes its want; and a want is decided.
use Rattle.std.proofs.Common.{◌≡◌, ℕ, ◌+◌, ◌≤◌, ◌<◌, ◌⊎◌, List, [], ◌∷◌, ◌++◌, length, map, inl, inr, sym, ◌∙◌, ap}
use Rattle.std.proofs.Common.{subst, refl, arith}
use Rattle.base_types.specs.declared.ids.HostId.{HostId}
use Rattle.base_types.specs.declared.ids.ServerId.{ServerId}
use Rattle.base_types.specs.declared.limits.TheConstants.{NEEDS_MAX}
use Rattle.message_types.specs.declared.asking.Change.{Change as ChangeOf}
use Rattle.message_types.specs.declared.message.Body.{Body}
use Rattle.message_types.specs.declared.message.Body.TheVariants.{Done}
use Rattle.message_types.specs.declared.telling.Done.{Done as DoneOf}
use Rattle.token_manager.specs.declared.want.Want.{Want as WantOf}
use Rattle.run_rules.specs.Doings.{Doing, IsDurable, IsLive, NoGrace, SentTo}
use Rattle.run_rules.specs.Doings.{TookNow, epoch}
use Rattle.run_rules.specs.Doings.Doing.{MakesWant, Sent}
use Rattle.run_rules.specs.Past.{In}
use Rattle.run_rules.specs.ServerDecides.{IsAskedHere}
use Rattle.run_rules.specs.Wants.{CannotBothWait, Decides, IsQueued, IsQueuedBefore, NoneQueued, Unwants, body_of}
use Rattle.run_rules.specs.declared.applied.Request.TheVariants.{Change as Changes, Fetch as Asks}
use Rattle.run_rules.specs.declared.applied.Request.{Request}
use Rattle.run_rules.specs.declared.applied.Wanted.{Wanted}
use Rattle.server_tables.specs.declared.tables.LastChange.{LastChange}
use Rattle.server_tables.specs.declared.pending.Pending.{Pending}
use Rattle.server_tables.specs.Standing.{ChangesStand, QueueStands, WantsStand, want_for}
use Rattle.server_tables.proofs.Still.{AnswersStill, HostsStill, TokensStill, dones_of, last_still, live_still}
use Rattle.server_tables.proofs.Still.{over_still}
use Rattle.server_tables.proofs.Idle.{up_to}
use Rattle.server_tables.proofs.Still.{asked_by}
use Rattle.server_tables.proofs.Greeting.{in_end, in_front, in_parts}

pub same_refl : (r : Request) → CannotBothWait r r
same_refl (Asks f) = (refl, refl)
same_refl (Changes c) = refl

pub same_sym : (r q : Request) → CannotBothWait r q → CannotBothWait q r
same_sym (Asks f) (Asks g) p = (sym p.0, sym p.1)
same_sym (Changes c) (Changes d) p = sym p
same_sym (Asks f) (Changes d) p = elim p [ ]
same_sym (Changes c) (Asks g) p = elim p [ ]

pub map_end : {A B : Type 0} (f : A → B) (xs : List A) (x : A) → map f (xs ++ x ∷ []) ≡ map f xs ++ f x ∷ []
map_end f [] x = refl
map_end f (y ∷ xs) x = ap (λ l. f y ∷ l) (map_end f xs x)

pub one_is : {A : Type 0} (x y : A) → In x (y ∷ []) → x ≡ y
one_is x y (inl p) = p
one_is x y (inr p) = elim p [ ]

-- the doing makes a want
module _ (past : List Doing) (w : Wanted) where
  abbrev made : Doing
  made = MakesWant w

  pub made_hosts : HostsStill past made
  made_hosts = record {
    calm = record {
      begin = λ b. let p = b.1 in cc;
      still = λ b. let p = b.1 in cc;
      away = λ h g. absurd (elim g [
        | inl p ↦
            (let q = p.2 in cc)
        | inr p ↦ (let q = p.0.1 in cc)
      ]);
      admits = λ h ts p. cc;
    };
    hello = λ h p l d. let q = p.2 in cc;
    down = λ h p. absurd (let q = p.2 in cc);
    sends = λ h0 e0 n0 b0 p. absurd (cc);
  }

  pub made_tokens : (server : ServerId) → TokensStill server past made
  made_tokens server = record {
    names = λ h i n. elim n [ inl p ↦ (let q = p.1.2.0 in cc) | inr p ↦ (let q = p.1.2.0 in cc) ];
    kept = λ h f n p. let q = p.2.0 in cc;
    issues = λ t k i. elim i.3 [ inl p ↦ (let q = p.1 in cc) | inr p ↦ (let q = p.1 in cc) ];
    reserves = λ t ts p m. absurd (cc);
    revokes = λ h e n r p. cc;
  }

  pub made_answers : (server : ServerId) → AnswersStill server past made
  made_answers server = record {
    gives = λ h f g p. let q = p.2.0 in cc;
    claims = λ h n d p. let q = p.0 in cc;
    dones = λ h e n d p. cc;
    writes = λ v p. cc;
  }

  its_want : (v : Wanted) → made ≡ MakesWant v → w ≡ v
  its_want v p = cc

  pub made_decides : (h : HostId) (r : Request) → Decides made h r → ⊥
  made_decides h (Asks f) d = let p = d.3 in cc
  made_decides h (Changes f) (inl d) = let p = d.1 in cc
  made_decides h (Changes f) (inr d) = let p = d.3 in cc

  pub made_waits : (u : Wanted) → IsQueued (made ∷ past) u → (u ≡ w) ⊎ IsQueued past u
  made_waits u (inl p) = inl (sym (its_want u p))
  made_waits u (inr p) = inr p.0

  module _ (server : ServerId) (next : ℕ) (ps : List Pending) (s : WantsStand past server next ps)
      (alone : NoneQueued past w.host w.request) where
    pub not_waiting : IsQueued past w → ⊥
    not_waiting p = alone w p refl (same_refl w.request)

    pub waits_on : (u : Wanted) → IsQueued past u → IsQueued (made ∷ past) u
    waits_on u p = inr (p, not)
      where
        not : Unwants past made u → ⊥
        not (inl d) = made_decides u.host u.request d
        not (inr (inl v)) = let e = its_want v.0 v.1 in
            alone u p (sym (ap (λ (y : Wanted). y.host) e ∙ v.2)) (same_sym w.request u.request (subst
            (λ (y : Wanted). CannotBothWait y.request u.request) (sym e) v.3))
        not (inr (inr (inl g))) = elim g [ inl q ↦ (let x = q.2 in cc) | inr q ↦ (let x = q.0.1 in cc) ]
        not (inr (inr (inr b))) = let x = b.1 in cc

    abbrev p0 : Pending
    p0 = record { number = next; wanted = w }

    pub wants_made : IsLive past w.host → TookNow past w.host w.moves (body_of w.request)
        → IsAskedHere server past w.moves w.request
        → length w.needs ≤ NEEDS_MAX → WantsStand (made ∷ past) server (next + 1) (ps ++ p0 ∷ [])
    wants_made live took here few = record {
      pending = λ p m. elim (in_parts p ps (p0 ∷ []) m) [
        | inl k ↦ waits_on p.wanted (s.pending p k)
        | inr k ↦
            inl (ap (λ (y : Pending). MakesWant y.wanted) (sym (one_is p p0 k)))
      ];
      pending_all = λ u x. elim (made_waits u x) [
        | inl e ↦ (p0, in_end p0 ps, sym e)
        | inr k ↦
            (let q = s.pending_all u k in (q.0, in_front q.0 ps (p0 ∷ []) q.1, q.2))
      ];
      order = order;
      order_all = order_all;
      live = λ u x. elim (made_waits u x) [
        | inl e ↦ live_still past made made_hosts.calm u.host (subst
            (λ (y : Wanted). IsLive past y.host) (sym e) live)
        | inr k ↦ live_still past made made_hosts.calm u.host
            (s.live u k)
      ];
      took = λ u x. elim (made_waits u x) [
        | inl e ↦ inr (
          subst (λ (y : Wanted). TookNow past y.host y.moves
              (body_of y.request)) (sym e) took,
          made_hosts.calm.begin,
        )
        | inr k ↦ inr (s.took u k, made_hosts.calm.begin)
      ];
      here = λ u x. asked_by server past (MakesWant w ∷ past) (λ f. refl) u.moves u.request (elim (made_waits u x) [
        | inl e ↦ subst (λ (y : Wanted). IsAskedHere server past y.moves y.request)
            (sym e) here
        | inr k ↦ s.here u k
      ]);
      once = once;
      few = λ p m. elim (in_parts p ps (p0 ∷ []) m) [
        | inl k ↦ s.few p k
        | inr k ↦
            subst (λ (y : Pending). length y.wanted.needs ≤ NEEDS_MAX) (sym (one_is p p0 k)) few
      ];
      below = λ p m. elim (in_parts p ps (p0 ∷ []) m) [
        | inl k ↦ (let l = s.below p k in omega (arith, l))
        | inr k ↦
            (let l : p.number ≡ next = ap (λ (y : Pending). y.number) (one_is p p0 k) in omega (arith, l))
      ];
    }
      where
        order : (p q : Pending) → In p (ps ++ p0 ∷ []) → In q (ps ++ p0 ∷ []) → p.number < q.number → IsQueuedBefore
            (made ∷ past) p.wanted q.wanted
        order p q m n l = go (in_parts p ps (p0 ∷ []) m) (in_parts q ps (p0 ∷ []) n)
          where
            go : In p ps ⊎ In p (p0 ∷ []) → In q ps ⊎ In q (p0 ∷ []) → IsQueuedBefore (made ∷ past) p.wanted q.wanted
            go (inl a) (inl b) = (
              inr (s.order p q a b l),
              waits_on p.wanted (s.pending p a),
              waits_on q.wanted (s.pending q b),
            )
            go (inl a) (inr b) = let e : MakesWant w ≡ MakesWant q.wanted = ap (λ (y : Pending). MakesWant y.wanted)
                (sym (one_is q p0 b)) in
                (inl (s.pending p a, e), waits_on p.wanted (s.pending p a), inl e)
            go (inr a) (inl b) = absurd (let x : p.number ≡ next = ap (λ (y : Pending). y.number) (one_is p p0 a) in
                let y = s.below q b in omega (arith, l, x, y))
            go (inr a) (inr b) = absurd (let x : p.number ≡ next = ap (λ (y : Pending). y.number) (one_is p p0 a) in
                let y : q.number ≡ next = ap (λ (z : Pending). z.number) (one_is q p0 b) in omega (arith, l, x, y))

        order_all : (p q : Pending) → In p (ps ++ p0 ∷ []) → In q (ps ++ p0 ∷ []) → IsQueuedBefore
            (made ∷ past) p.wanted q.wanted → p.number < q.number
        order_all p q m n t = go (in_parts p ps (p0 ∷ []) m) (in_parts q ps (p0 ∷ []) n) t.0
          where
            new_is : (z : Pending) → In z (p0 ∷ []) → IsQueued past z.wanted → ⊥
            new_is z a x = not_waiting (subst (λ (y : Pending). IsQueued past y.wanted) (one_is z p0 a) x)

            both_wait : (acts : List Doing) (u v : Wanted) → IsQueuedBefore acts u v → IsQueued acts u × IsQueued acts v
            both_wait [] u v b = elim b [ ]
            both_wait (a ∷ acts) u v b = (b.1, b.2)

            go : In p ps ⊎ In p (p0 ∷ []) → In q ps ⊎ In q (p0 ∷ []) → (IsQueued past p.wanted ×
                (made ≡ MakesWant q.wanted)) ⊎ IsQueuedBefore past p.wanted q.wanted → p.number < q.number
            go (inl a) (inl b) (inl x) = absurd (not_waiting (subst (IsQueued past) (sym (its_want q.wanted x.1))
                (s.pending q b)))
            go (inl a) (inl b) (inr x) = s.order_all p q a b x
            go (inl a) (inr b) x = let k = s.below p a in let y : q.number ≡ next = ap (λ (z : Pending). z.number)
                (one_is q p0 b) in omega (arith, k, y)
            go (inr a) b (inl x) = absurd (new_is p a x.0)
            go (inr a) b (inr x) = absurd (new_is p a (both_wait past p.wanted q.wanted x).0)

        once : (u v : Wanted) → IsQueued (made ∷ past) u → IsQueued (made ∷ past) v → u.host ≡ v.host
            → CannotBothWait u.request v.request → u ≡ v
        once u v x y h k = go (made_waits u x) (made_waits v y)
          where
            go : (u ≡ w) ⊎ IsQueued past u → (v ≡ w) ⊎ IsQueued past v → u ≡ v
            go (inl e) (inl d) = e ∙ sym d
            go (inl e) (inr d) = absurd (alone v d (sym h ∙ ap (λ (z : Wanted). z.host) e)
                (same_sym w.request v.request (subst (λ (z : Wanted). CannotBothWait z.request v.request) e k)))
            go (inr e) (inl d) = absurd (alone u e (h ∙ ap (λ (z : Wanted). z.host) d) (subst
                (λ (z : Wanted). CannotBothWait u.request z.request) d k))
            go (inr e) (inr d) = s.once u v e d h k

    pub queue_made : (queue : List WantOf) → QueueStands past queue ps → NoGrace past → QueueStands (made ∷ past)
        (queue ++ want_for p0 ∷ []) (ps ++ p0 ∷ [])
    queue_made queue q over = record {
      calm = λ g. ap (λ (l : List WantOf). l ++ want_for p0 ∷ []) (q.calm over) ∙ sym (map_end want_for ps p0);
      grace = λ g. absurd (g (over_still past made made_hosts.calm over));
    }

    pub changes_made : {cs : List LastChange} → ChangesStand past cs
        → ((c : ChangeOf) → w.request ≡ Changes c → IsDurable past w.host c.fileset c.number → ⊥)
        → ((c : ChangeOf) (e n : ℕ) (d : DoneOf) → w.request ≡ Changes c → SentTo past w.host e n (Done d)
        → d.fileset ≡ c.fileset → d.bring.number ≤ c.number)
        → ChangesStand (made ∷ past) cs
    changes_made {cs} z fresh above =
        record {
          last = λ l m. last_still past made made_hosts.calm (dones_of server past made (made_answers server))
              (z.last l m);
          last_all = λ h e n d t. z.last_all h e n d (sent h e n d t);
          answered = λ v t. z.answered v (elim t [ inl p ↦ absurd (cc) | inr p ↦ p ]);
          fresh = λ u c x is old. elim (made_waits u x) [
            | inl e ↦ fresh_new u c e is old
            | inr x2 ↦
                z.fresh u c x2 is (durable u c old)
          ];
          above = λ u c e n d x is t. elim (made_waits u x) [
            | inl q ↦ above_new u c e n d q is t
            | inr x2 ↦
                z.above u c e n d x2 is (sent u.host e n d t)
          ];
        }
      where
        durable : (u : Wanted) (c : ChangeOf) → IsDurable (made ∷ past) u.host c.fileset c.number
            → IsDurable past u.host c.fileset c.number
        durable u c (m, l, inl p) = absurd (let q = p.1 in cc)
        durable u c (m, l, inr p) = (m, l, p)

        sent : (h : HostId) (e n : ℕ) (d : DoneOf) → SentTo (made ∷ past) h e n (Done d) → SentTo past h e n (Done d)
        sent h e n d (inl p) = absurd (cc)
        sent h e n d (inr p) = p

        fresh_new : (u : Wanted) (c : ChangeOf) → u ≡ w → u.request ≡ Changes c → IsDurable
            (made ∷ past) u.host c.fileset c.number → ⊥
        fresh_new u c e is old = fresh c (ap (λ (y : Wanted). y.request) (sym e) ∙ is) (subst
            (λ (y : Wanted). IsDurable past y.host c.fileset c.number) e (durable u c old))

        above_new : (u : Wanted) (c : ChangeOf) (e n : ℕ) (d : DoneOf) → u ≡ w → u.request ≡ Changes c → SentTo
            (made ∷ past) u.host e n (Done d) → d.fileset ≡ c.fileset → d.bring.number ≤ c.number
        above_new u c e n d q is t = above c e n d (ap (λ (y : Wanted). y.request) (sym q) ∙ is) (subst
            (λ (y : Wanted). SentTo past y.host e n (Done d)) q (sent u.host e n d t))

-- A message decides a want: it is the Grant or the Done of its number.
module _ (past : List Doing) (server : ServerId) (next : ℕ) (ps : List Pending) (s : WantsStand past server next ps)
    (w : Wanted) (waits : IsQueued past w)
    (e n : ℕ) (b : Body) (now : e ≡ epoch past) (does : Decides (Sent w.host e n b) w.host w.request)
    (alone : (h : HostId) (r : Request) → Decides (Sent w.host e n b) h r → (h ≡ w.host)
    × CannotBothWait w.request r) where
  abbrev told : Doing
  told = Sent w.host e n b

  pub told_hosts : HostsStill past told
  told_hosts = record {
    calm = record {
      begin = λ z. let p = z.1 in cc;
      still = λ z. let p = z.1 in cc;
      away = λ h g. absurd (elim g [
        | inl p ↦
            (let q = p.2 in cc)
        | inr p ↦ (let q = p.0.1 in cc)
      ]);
      admits = λ h ts p. cc;
    };
    hello = λ h p l d. let q = p.2 in cc;
    down = λ h p. absurd (let q = p.2 in cc);
    sends = up_to past w.host e n b now;
  }

  pub told_answers : ((d : DoneOf) → b ≡ Done d → ⊥) → AnswersStill server past told
  told_answers never = record {
    gives = λ h f g p. let q = p.2.0 in cc;
    claims = λ h k d p. let q = p.0 in cc;
    dones = λ h k m d p. never d (cc);
    writes = λ v p. cc;
  }

  pub told_out : IsQueued (told ∷ past) w → ⊥
  told_out (inl p) = cc
  told_out (inr p) = p.1 (inl does)

  pub told_back : (u : Wanted) → IsQueued (told ∷ past) u → IsQueued past u
  told_back u (inl p) = absurd (cc)
  told_back u (inr p) = p.0

  pub told_on : (u : Wanted) → IsQueued past u → (u ≡ w → ⊥) → IsQueued (told ∷ past) u
  told_on u p other = inr (p, not)
    where
      not : Unwants past told u → ⊥
      not (inl d) = let k = alone u.host u.request d in other (s.once u w p waits k.0
          (same_sym w.request u.request k.1))
      not (inr (inl v)) = let q = v.1 in cc
      not (inr (inr (inl g))) = elim g [ inl q ↦ (let x = q.2 in cc) | inr q ↦ (let x = q.0.1 in cc) ]
      not (inr (inr (inr z))) = let x = z.1 in cc

  -- `qs` are the wants without it
  pub wants_left : (qs : List Pending) → ((p : Pending) → In p qs → In p ps × (p.wanted ≡ w → ⊥))
      → ((p : Pending) → In p ps → (p.wanted ≡ w → ⊥) → In p qs) → WantsStand (told ∷ past) server next qs
  wants_left qs of all = record {
    pending = λ p m. told_on p.wanted (s.pending p (of p m).0) (of p m).1;
    pending_all = λ u x. let q = s.pending_all u (told_back u x) in
        (q.0, all q.0 q.1 (λ same. told_out (subst (IsQueued (told ∷ past)) (sym q.2 ∙ same) x)), q.2);
    order = λ p q m k l. (
      inr (s.order p q (of p m).0 (of q k).0 l),
      told_on p.wanted (s.pending p (of p m).0)
          (of p m).1,
      told_on q.wanted (s.pending q (of q k).0) (of q k).1,
    );
    order_all = λ p q m k t. s.order_all p q (of p m).0 (of q k).0 (elim t.0 [
      | inl x ↦ absurd (let y = x.1 in
          cc)
      | inr x ↦ x
    ]);
    live = λ u x. live_still past told told_hosts.calm u.host (s.live u (told_back u x));
    took = λ u x. inr (s.took u (told_back u x), told_hosts.calm.begin);
    here = λ u x. asked_by server past (told ∷ past) (λ f. refl) u.moves u.request (s.here u (told_back u x));
    once = λ u v x y. s.once u v (told_back u x) (told_back v y);
    few = λ p m. s.few p (of p m).0;
    below = λ p m. s.below p (of p m).0;
  }
