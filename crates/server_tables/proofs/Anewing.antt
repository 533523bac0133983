-- A want is made anew: its request needs something else than before, and stands behind all others from now on.
use Rattle.std.proofs.Common.{◌≡◌, ◌⊎◌, ℕ, ◌+◌, ◌≤◌, ◌<◌, List, [], ◌∷◌, ◌++◌, length, map, Some, inl, inr, refl, sym}
use Rattle.std.proofs.Common.{◌∙◌, ap, subst, arith}
use Rattle.base_types.specs.declared.ids.Fid.{Fid}
use Rattle.base_types.specs.declared.ids.HostId.{HostId}
use Rattle.base_types.specs.declared.ids.ServerId.{ServerId}
use Rattle.base_types.specs.declared.limits.TheConstants.{NEEDS_MAX}
use Rattle.message_types.specs.declared.asking.Change.{Change as ChangeOf}
use Rattle.message_types.specs.declared.message.Body.TheVariants.{Done, Revoke}
use Rattle.message_types.specs.declared.telling.Done.{Done as DoneOf}
use Rattle.token_manager.specs.declared.want.Want.{Want as WantOf}
use Rattle.token_types.specs.declared.token.Need.{Need}
use Rattle.message_types.specs.declared.telling.Bring.{Bring}
use Rattle.message_types.specs.declared.tokens.Revoke.{Revoke as RevokeOf}
use Rattle.run_rules.specs.Doings.{BringsTokens, Doing, IsDurable, IsLive, NoGrace, SentTo, TookNow, UsesStamp}
use Rattle.run_rules.specs.Doings.Doing.{MakesWant, Sent}
use Rattle.run_rules.specs.Past.{In}
use Rattle.run_rules.specs.ServerDecides.{IsAskedHere}
use Rattle.run_rules.specs.Wants.{CannotBothWait, IsQueued, IsQueuedBefore, Unwants, body_of}
use Rattle.run_rules.specs.declared.applied.Wanted.{Wanted}
use Rattle.server_tables.specs.declared.tables.LastChange.{LastChange}
use Rattle.server_tables.specs.declared.tables.Tables.{Tables}
use Rattle.server_tables.specs.declared.pending.Pending.{Pending}
use Rattle.server_tables.specs.Standing.{ChangesStand, QueueStands, Stands, WantsStand, want_for}
use Rattle.server_tables.proofs.Still.{claims_of, dones_of, gives_still, hosts_still, last_still, live_still}
use Rattle.server_tables.proofs.Still.{over_still, recovery_still, stamps_still, tokens_still}
use Rattle.server_tables.proofs.Greeting.{in_end, in_front, in_parts}
use Rattle.server_tables.proofs.Queueing.{made_answers, made_decides, made_hosts, made_tokens, map_end, one_is}
use Rattle.server_tables.proofs.Still.{asked_by}
use Rattle.server_tables.proofs.Queueing.{same_refl}

-- `old` waits, and is made anew with these needs; `qs` are the wants without it
module _ (past : List Doing) (server : ServerId) (next : ℕ) (ps qs : List Pending)
    (s : WantsStand past server next ps) (old : Wanted)
    (waits : IsQueued past old) (needs : List Need) (differs : old.needs ≡ needs → ⊥) (few : length needs ≤ NEEDS_MAX)
    (of : (p : Pending) → In p qs → In p ps × (p.wanted ≡ old → ⊥)) (all : (p : Pending) → In p ps → (p.wanted ≡ old
    → ⊥) → In p qs) where
  abbrev new : Wanted
  new = record old { needs = needs }

  abbrev made : Doing
  made = MakesWant new

  abbrev p0 : Pending
  p0 = record { number = next; wanted = new }

  its_want : (v : Wanted) → made ≡ MakesWant v → new ≡ v
  its_want v p = cc

  -- the new one didn't wait
  not_waiting : IsQueued past new → ⊥
  not_waiting p = differs (ap (λ (z : Wanted). z.needs) (s.once old new waits p refl (same_refl old.request)))

  anew_waits : (u : Wanted) → IsQueued (made ∷ past) u → (u ≡ new) ⊎ (IsQueued past u × (u ≡ old → ⊥))
  anew_waits u (inl p) = inl (sym (its_want u p))
  anew_waits u (inr p) = inr (
    p.0,
    λ e. p.1 (inr (inl (
      new,
      refl,
      ap (λ (z : Wanted). z.host) (sym e),
      subst (λ (z : Wanted). CannotBothWait old.request z.request) (sym e) (same_refl old.request),
    ))),
  )

  waits_on : (u : Wanted) → IsQueued past u → (u ≡ old → ⊥) → IsQueued (made ∷ past) u
  waits_on u p other = inr (p, not)
    where
      not : Unwants past made u → ⊥
      not (inl d) = made_decides past new u.host u.request d
      not (inr (inl v)) = let e = its_want v.0 v.1 in
          other (sym (s.once old u waits p (ap (λ (z : Wanted). z.host) e ∙ v.2) (subst
          (λ (z : Wanted). CannotBothWait z.request u.request) (sym e) v.3)))
      not (inr (inr (inl g))) = elim g [ inl q ↦ (let x = q.2 in cc) | inr q ↦ (let x = q.0.1 in cc) ]
      not (inr (inr (inr b))) = let x = b.1 in cc

  was : (p : Pending) → In p qs → IsQueued past p.wanted
  was p m = s.pending p (of p m).0

  stays : (p : Pending) → In p qs → IsQueued (made ∷ past) p.wanted
  stays p m = waits_on p.wanted (was p m) (of p m).1

  both_wait : (acts : List Doing) (u v : Wanted) → IsQueuedBefore acts u v → IsQueued acts u × IsQueued acts v
  both_wait [] u v b = elim b [ ]
  both_wait (a ∷ acts) u v b = (b.1, b.2)

  pub wants_anew : WantsStand (made ∷ past) server (next + 1) (qs ++ p0 ∷ [])
  wants_anew = record {
    pending = λ p m. elim (in_parts p qs (p0 ∷ []) m) [
      | inl k ↦ stays p k
      | inr k ↦
          inl (ap (λ (y : Pending). MakesWant y.wanted) (sym (one_is p p0 k)))
    ];
    pending_all = λ u x. elim (anew_waits u x) [
      | inl e ↦ (p0, in_end p0 qs, sym e)
      | inr k ↦
          (let q = s.pending_all u k.0 in (q.0, in_front q.0 qs (p0 ∷ []) (all q.0 q.1 (λ z. k.1 (sym q.2 ∙ z))), q.2))
    ];
    order = order;
    order_all = order_all;
    live = λ u x. live_still past made (made_hosts past new).calm u.host (elim (anew_waits u x) [
      | inl e ↦
          subst (λ (y : Wanted). IsLive past y.host) (sym e) (s.live old waits)
      | inr k ↦ s.live u k.0
    ]);
    took = λ u x. inr (
      (elim (anew_waits u x) [
        | inl e ↦ subst (λ (y : Wanted). TookNow past y.host y.moves
            (body_of y.request)) (sym e) (s.took old waits)
        | inr k ↦ s.took u k.0
      ]),
      (made_hosts past new).calm.begin,
    );
    here = λ u x. asked_by server past (MakesWant new ∷ past) (λ f. refl) u.moves u.request (elim (anew_waits u x) [
      | inl e ↦ subst (λ (y : Wanted). IsAskedHere server past y.moves y.request)
          (sym e) (s.here old waits)
      | inr k ↦ s.here u k.0
    ]);
    once = once;
    few = λ p m. elim (in_parts p qs (p0 ∷ []) m) [
      | inl k ↦ s.few p (of p k).0
      | inr k ↦
          subst (λ (y : Pending). length y.wanted.needs ≤ NEEDS_MAX) (sym (one_is p p0 k)) few
    ];
    below = λ p m. elim (in_parts p qs (p0 ∷ []) m) [
      | inl k ↦
          (let l = s.below p (of p k).0 in omega (arith, l))
      | inr k ↦
          (let l : p.number ≡ next = ap (λ (y : Pending). y.number) (one_is p p0 k) in omega (arith, l))
    ];
  }
    where
      order : (p q : Pending) → In p (qs ++ p0 ∷ []) → In q (qs ++ p0 ∷ []) → p.number < q.number → IsQueuedBefore
          (made ∷ past) p.wanted q.wanted
      order p q m n l = go (in_parts p qs (p0 ∷ []) m) (in_parts q qs (p0 ∷ []) n)
        where
          go : In p qs ⊎ In p (p0 ∷ []) → In q qs ⊎ In q (p0 ∷ []) → IsQueuedBefore (made ∷ past) p.wanted q.wanted
          go (inl a) (inl b) = (inr (s.order p q (of p a).0 (of q b).0 l), stays p a, stays q b)
          go (inl a) (inr b) = let e : MakesWant new ≡ MakesWant q.wanted = ap (λ (y : Pending). MakesWant y.wanted)
              (sym (one_is q p0 b)) in
              (inl (was p a, e), stays p a, inl e)
          go (inr a) (inl b) = absurd (let x : p.number ≡ next = ap (λ (y : Pending). y.number) (one_is p p0 a) in
              let y = s.below q (of q b).0 in omega (arith, l, x, y))
          go (inr a) (inr b) = absurd (let x : p.number ≡ next = ap (λ (y : Pending). y.number) (one_is p p0 a) in
              let y : q.number ≡ next = ap (λ (z : Pending). z.number) (one_is q p0 b) in omega (arith, l, x, y))

      order_all : (p q : Pending) → In p (qs ++ p0 ∷ []) → In q (qs ++ p0 ∷ []) → IsQueuedBefore
          (made ∷ past) p.wanted q.wanted → p.number < q.number
      order_all p q m n t = go (in_parts p qs (p0 ∷ []) m) (in_parts q qs (p0 ∷ []) n) t.0
        where
          new_is : (z : Pending) → In z (p0 ∷ []) → IsQueued past z.wanted → ⊥
          new_is z a x = not_waiting (subst (λ (y : Pending). IsQueued past y.wanted) (one_is z p0 a) x)

          go : In p qs ⊎ In p (p0 ∷ []) → In q qs ⊎ In q (p0 ∷ []) → (IsQueued past p.wanted ×
              (made ≡ MakesWant q.wanted)) ⊎ IsQueuedBefore past p.wanted q.wanted → p.number < q.number
          go (inl a) (inl b) (inl x) = absurd (not_waiting (subst (IsQueued past) (sym (its_want q.wanted x.1))
              (was q b)))
          go (inl a) (inl b) (inr x) = s.order_all p q (of p a).0 (of q b).0 x
          go (inl a) (inr b) x = let k = s.below p (of p a).0 in let y : q.number ≡ next =
              ap (λ (z : Pending). z.number) (one_is q p0 b) in omega (arith, k, y)
          go (inr a) b (inl x) = absurd (new_is p a x.0)
          go (inr a) b (inr x) = absurd (new_is p a (both_wait past p.wanted q.wanted x).0)

      once : (u v : Wanted) → IsQueued (made ∷ past) u → IsQueued (made ∷ past) v → u.host ≡ v.host
          → CannotBothWait u.request v.request → u ≡ v
      once u v x y h k = go (anew_waits u x) (anew_waits v y)
        where
          go : (u ≡ new) ⊎ (IsQueued past u × (u ≡ old → ⊥)) → (v ≡ new) ⊎ (IsQueued past v × (v ≡ old → ⊥)) → u ≡ v
          go (inl e) (inl d) = e ∙ sym d
          go (inl e) (inr d) = absurd (d.1 (sym (s.once old v waits d.0 (ap (λ (z : Wanted). z.host) (sym e) ∙ h)
              (subst (λ (z : Wanted). CannotBothWait z.request v.request) e k))))
          go (inr e) (inl d) = absurd (e.1 (s.once u old e.0 waits (h ∙ ap (λ (z : Wanted). z.host) d) (subst
              (λ (z : Wanted). CannotBothWait u.request z.request) d k)))
          go (inr e) (inr d) = s.once u v e.0 d.0 h k

  pub queue_anew : (queue left : List WantOf) → QueueStands past queue ps → NoGrace past → (queue ≡ map want_for ps
      → left ≡ map want_for qs)
      → QueueStands (made ∷ past) (left ++ want_for p0 ∷ []) (qs ++ p0 ∷ [])
  queue_anew queue left q over gives_up = record {
    calm = λ g. ap (λ (l : List WantOf). l ++ want_for p0 ∷ []) (gives_up (q.calm over)) ∙ sym (map_end want_for qs p0);
    grace = λ g. absurd (g (over_still past made (made_hosts past new).calm over));
  }

  pub changes_anew : {cs : List LastChange} → ChangesStand past cs → ChangesStand (made ∷ past) cs
  changes_anew {cs} z =
      record {
        last = λ l m. last_still past made (made_hosts past new).calm (dones_of server past made
            (made_answers past new server)) (z.last l m);
        last_all = λ h e n d t. z.last_all h e n d (sent h e n d t);
        answered = λ v t. z.answered v (elim t [ inl p ↦ absurd (cc) | inr p ↦ p ]);
        fresh = λ u c x is was_durable. elim (anew_waits u x) [
          | inl e ↦ z.fresh old c waits (ap (λ (y : Wanted). y.request) (sym e) ∙ is) (subst
              (λ (y : Wanted). IsDurable past y.host c.fileset c.number) e (durable u c was_durable))
          | inr k ↦ z.fresh u c k.0 is (durable u c was_durable)
        ];
        above = λ u c e n d x is t. elim (anew_waits u x) [
          | inl q ↦ z.above old c e n d waits (ap (λ (y : Wanted). y.request) (sym q) ∙ is) (subst
              (λ (y : Wanted). SentTo past y.host e n (Done d)) q (sent u.host e n d t))
          | inr k ↦ z.above u c e n d k.0 is (sent u.host e n d t)
        ];
      }
    where
      durable : (u : Wanted) (c : ChangeOf) → IsDurable (made ∷ past) u.host c.fileset c.number
          → IsDurable past u.host c.fileset c.number
      durable u c (m, l, inl p) = absurd (let q = p.1 in cc)
      durable u c (m, l, inr p) = (m, l, p)

      sent : (h : HostId) (e n : ℕ) (d : DoneOf) → SentTo (made ∷ past) h e n (Done d) → SentTo past h e n (Done d)
      sent h e n d (inl p) = absurd (cc)
      sent h e n d (inr p) = p

-- all tables, once a want is made anew; `left` is the manager's queue without it
pub stands_anew : (past : List Doing) (x : Tables) (s : Stands past x) (old : Wanted) (waits : IsQueued past old)
    (needs : List Need)
    (differs : old.needs ≡ needs → ⊥) (few : length needs ≤ NEEDS_MAX) (qs : List Pending) (left : List WantOf)
    (of : (p : Pending) → In p qs → In p x.pending × (p.wanted ≡ old → ⊥)) (all : (p : Pending) → In p x.pending →
    (p.wanted ≡ old → ⊥) → In p qs)
    (over : NoGrace past) (gives_up : x.tokens.queue ≡ map want_for x.pending → left ≡ map want_for qs)
    → Stands (MakesWant (record old { needs = needs }) ∷ past) (record x {
      tokens = record x.tokens {
        queue = left ++ want_for (record {
          number = x.next;
          wanted = record old {
            needs =
                needs;
          };
        }) ∷ [];
        asked = x.tokens.asked + 1;
        latest = Some x.next;
      };
      pending = qs ++ record { number = x.next; wanted = record old { needs = needs } } ∷ [];
      next = x.next + 1;
    })
stands_anew past x s old waits needs differs few qs left of all over gives_up =
    let w : Wanted = record old { needs = needs } in
    let a : Doing = MakesWant w in
    let h = made_hosts past w in
    record {
      slots = s.slots;
      hosts = hosts_still past a h s.hosts;
      tokens = tokens_still past a h.calm x.server (made_tokens past w x.server) s.tokens;
      stamps = stamps_still past a h.calm x.server (made_tokens past w x.server) (λ f z t. absurd (quiet a f z
          (λ k e n b p. elim p [
            | inl q ↦ (let r = q.1 in cc)
            | inr q ↦
                (let r = q.1 in cc)
          ]) (λ k e n r p. cc) t)) s.stamps;
      wants = wants_anew past x.server x.next x.pending qs s.wants old waits needs differs few of all;
      queue = queue_anew past x.server x.next x.pending qs s.wants old waits needs differs few of all x.tokens.queue
          left s.queue over gives_up;
      gives = gives_still past a h.calm x.server (claims_of x.server past a (made_answers past w x.server)) s.gives;
      changes = changes_anew past x.server x.next x.pending qs s.wants old waits needs differs few of all s.changes;
      recovery = recovery_still past a h.calm x.server (claims_of x.server past a (made_answers past w x.server))
          (made_tokens past w x.server).names s.recovery;
    }
  where
    quiet : (d : Doing) (f : Fid) (z : ℕ) → ((k : HostId) (e n : ℕ) (b : Bring) → BringsTokens d k e n b → ⊥) →
        ((k : HostId) (e n : ℕ) (r : RevokeOf) → d ≡ Sent k e n (Revoke r) → ⊥) → UsesStamp d f z → ⊥
    quiet d f z p q (inl t) = p t.0 t.1 t.2 t.3 t.4
    quiet d f z p q (inr t) = q t.0 t.1 t.2 t.3 t.4
