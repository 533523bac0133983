-- A Change that waits is written down, and its host learns the reply: refused, or with effect.
use Rattle.std.proofs.Common.{List, [], Some, ap, arith, eq-eqb, false, inl, inr, map, refl, subst, sym, true, ℕ}
use Rattle.std.proofs.Common.{◌&&◌, ◌==◌, ◌∙◌, ◌∷◌, ◌≡◌, ◌≤◌, ◌⊎◌}
use Rattle.std.proofs.lemmas.Bool.{and_from, cases_Bool, cases_lt, eqb-true, false≢true}
use Rattle.base_types.specs.declared.ids.Fid.{Fid}
use Rattle.base_types.specs.declared.ids.FilesetId.{FilesetId}
use Rattle.base_types.specs.declared.ids.HostId.{HostId}
use Rattle.tree_calls.specs.declared.reply.Reply.{Reply}
use Rattle.token_manager.specs.declared.want.Want.{Want as WantOf}
use Rattle.token_types.specs.declared.token.Token.{Token}
use Rattle.message_types.specs.Soundness.{no_fid}
use Rattle.message_types.specs.declared.asking.Change.{Change as ChangeOf}
use Rattle.message_types.specs.declared.message.Body.TheVariants.{Done}
use Rattle.message_types.specs.declared.telling.Bring.{Bring}
use Rattle.message_types.specs.declared.telling.Done.{Done as DoneOf}
use Rattle.message_types.specs.declared.telling.DoneIs.TheVariants.{Reply as HasReply}
use Rattle.run_rules.specs.Doings.{Doing, IsDurable, IsLive, NoGrace, SentTo, UsesStamp, WasWritten, epoch}
use Rattle.run_rules.specs.Doings.Doing.{Sent, WritesDown}
use Rattle.run_rules.specs.Past.{In}
use Rattle.run_rules.specs.ServerDecides.{IsAskedHere}
use Rattle.run_rules.specs.Wants.{CannotBothWait, Decides, IsQueued, IsQueuedBefore, Unwants}
use Rattle.run_rules.specs.declared.applied.Request.{Request}
use Rattle.run_rules.specs.declared.applied.Request.TheVariants.{Change as Changes, Fetch as Asks}
use Rattle.run_rules.specs.declared.applied.Wanted.{Wanted}
use Rattle.run_rules.specs.declared.applied.Written.{Written}
use Rattle.server_tables.specs.declared.pending.Pending.{Pending}
use Rattle.server_tables.specs.declared.tables.LastChange.{LastChange}
use Rattle.server_tables.specs.declared.tables.Tables.{Tables}
use Rattle.server_tables.specs.Standing.{ChangesStand, IsLastChange, Stands, WantsStand, WroteThis, want_for}
use Rattle.server_tables.proofs.Changing.{IsRenewed}
use Rattle.server_tables.proofs.Idle.{up_to}
use Rattle.server_tables.proofs.Queueing.{same_sym}
use Rattle.server_tables.proofs.Settling.{both}
use Rattle.server_tables.proofs.Still.{ClaimsStill, HostsStill, TokensStill, gives_still, hosts_still, live_still}
use Rattle.server_tables.proofs.Still.{decided_home, over_still}
use Rattle.server_tables.proofs.Still.{asked_by}
use Rattle.server_tables.proofs.Still.{recovery_still, stamps_still, tokens_still}

same_host : (a b : HostId) → (a.0 == b.0) ≡ true → a ≡ b
same_host a b e = let q : a.0 ≡ b.0 = eqb-true a.0 b.0 e in λ i. record { 0 = q i }

same_fileset : (a b : FilesetId) → (a.0 == b.0) ≡ true → a ≡ b
same_fileset a b e = let q : a.0 ≡ b.0 = eqb-true a.0 b.0 e in λ i. record { 0 = q i }

-- `w` waits for the Change `c`, out of a grace period
module _ (past : List Doing) (x : Tables) (z : Stands past x) (w : Wanted) (waits : IsQueued past w) (c : ChangeOf)
    (is : w.request ≡ Changes c) (over : NoGrace past) (reply : Reply) where
  abbrev pub v : Written
  v = record {
    fileset = c.fileset;
    number = c.number;
    answer = record { host = w.host; k = c.k; call = c.call; reply = reply; first = false };
  }

  abbrev pub d : DoneOf
  d = record {
    fileset = c.fileset;
    outcome = HasReply reply;
    bring = record { number = c.number; fid = no_fid; stamp = 0; tokens = [] };
  }

  abbrev pub wrote : Doing
  wrote = WritesDown v

  abbrev pub told : Doing
  told = Sent w.host x.hosts.epoch w.moves (Done d)

  abbrev pub written : List Doing
  written = wrote ∷ past

  abbrev pub after : List Doing
  after = told ∷ written

  its_done : (h : HostId) (e n : ℕ) (o : DoneOf) → told ≡ Sent h e n (Done o) → d ≡ o
  its_done h e n o p = cc

  its_written : (o : Written) → wrote ≡ WritesDown o → v ≡ o
  its_written o p = cc

  -- it is new, and above all that were answered
  fresh_number : IsDurable past w.host c.fileset c.number → ⊥
  fresh_number = z.changes.fresh w c waits is

  top : (e n : ℕ) (o : DoneOf) → SentTo past w.host e n (Done o) → o.fileset ≡ c.fileset → o.bring.number ≤ c.number
  top e n o = z.changes.above w c e n o waits is

  -- neither of both changes a host, a token or a claim
  wrote_hosts : HostsStill past wrote
  wrote_hosts = record {
    calm = record {
      begin = λ b. let p = b.1 in cc;
      still = λ b. let p = b.1 in cc;
      away = λ h g. absurd (elim g [ inl p ↦ (let q = p.2 in cc) | inr p ↦ (let q = p.0.1 in cc) ]);
      admits = λ h ts p. cc;
    };
    hello = λ h p l o. let q = p.2 in cc;
    down = λ h p. absurd (let q = p.2 in cc);
    sends = λ h0 e0 n0 b0 p. absurd (cc);
  }

  wrote_tokens : TokensStill x.server past wrote
  wrote_tokens = record {
    names = λ h i n. elim n [ inl p ↦ (let q = p.1.2.0 in cc) | inr p ↦ (let q = p.1.2.0 in cc) ];
    kept = λ h f n p. let q = p.2.0 in cc;
    issues = λ t j i. elim i.3 [ inl p ↦ (let q = p.1 in cc) | inr p ↦ (let q = p.1 in cc) ];
    reserves = λ t ts p i. absurd (cc);
    revokes = λ h e n r p. cc;
  }

  wrote_claims : ClaimsStill x.server past wrote
  wrote_claims = record { gives = λ h f g p. let q = p.2.0 in cc; claims = λ h n o p. let q = p.0 in cc }

  epoch_now : x.hosts.epoch ≡ epoch written
  epoch_now = z.hosts.epoch_is

  told_hosts : HostsStill written told
  told_hosts = record {
    calm = record {
      begin = λ b. let p = b.1 in cc;
      still = λ b. let p = b.1 in cc;
      away = λ h g. absurd (elim g [ inl p ↦ (let q = p.2 in cc) | inr p ↦ (let q = p.0.1 in cc) ]);
      admits = λ h ts p. cc;
    };
    hello = λ h p l o. let q = p.2 in cc;
    down = λ h p. absurd (let q = p.2 in cc);
    sends = up_to written w.host x.hosts.epoch w.moves (Done d) epoch_now;
  }

  no_token : (t : Token) → In t [] → ⊥
  no_token t i = i

  told_tokens : TokensStill x.server written told
  told_tokens = record {
    names = λ h i n. elim n [ inl p ↦ (let q = p.1.2.0 in cc) | inr p ↦ (let q = p.1.2.0 in cc) ];
    kept = λ h f n p. let q = p.2.0 in cc;
    issues = λ t j i. elim i.3 [
      | inl p ↦ (let q = p.1 in cc)
      | inr p ↦ no_token t (subst (In t) (ap (λ (y : Bring). y.tokens) (sym p.2)
          ∙ ap (λ (y : DoneOf). y.bring.tokens) (sym (its_done i.0 i.1 j.moves p.0 p.1))) i.4)
    ];
    reserves = λ t ts p i. absurd (cc);
    revokes = λ h e n r p. cc;
  }

  told_claims : ClaimsStill x.server written told
  told_claims = record { gives = λ h f g p. let q = p.2.0 in cc; claims = λ h n o p. let q = p.0 in cc }

  wrote_tells : (f : Fid) (y : ℕ) → UsesStamp wrote f y → y ≤ x.stamp
  wrote_tells f y (inl t) = absurd (elim t.4 [ inl p ↦ (let q = p.1 in cc) | inr p ↦ (let q = p.1 in cc) ])
  wrote_tells f y (inr t) = absurd (let q = t.4 in cc)

  told_tells : (f : Fid) (y : ℕ) → UsesStamp told f y → y ≤ x.stamp
  told_tells f y (inl (h, e, n, b, inl p, q, r)) = absurd (let u = p.1 in cc)
  told_tells f y (inl (h, e, n, b, inr p, q, r)) =
      let u : 0 ≡ y = ap (λ (o : DoneOf). o.bring.stamp) (its_done h e n p.0 p.1)
      ∙ (ap (λ (o : Bring). o.stamp) p.2 ∙ r) in omega (arith, u)
  told_tells f y (inr r) = absurd (let u = r.4 in cc)

  -- # What waits

  wrote_same : (h : HostId) (r : Request) → Decides wrote h r → (h ≡ w.host) × CannotBothWait w.request r
  wrote_same h (Asks f) o = absurd (let p = o.3 in cc)
  wrote_same h (Changes f) (inl o) =
      let e = its_written o.0 o.1 in (
        sym (ap (λ (y : Written). y.answer.host) e ∙ o.2),
        subst (λ (r : Request). CannotBothWait r (Changes f)) (sym is)
            (ap (λ (y : Written). y.fileset) e ∙ o.3),
      )
  wrote_same h (Changes f) (inr o) = absurd (let p = o.3 in cc)

  told_same : (h : HostId) (r : Request) → Decides told h r → (h ≡ w.host) × CannotBothWait w.request r
  told_same h (Asks f) o = absurd (let p = o.3 in cc)
  told_same h (Changes f) (inl o) = absurd (let p = o.1 in cc)
  told_same h (Changes f) (inr o) =
      let e = its_done h o.0 o.1 o.2 o.3 in (
        (let p = o.3 in cc),
        subst (λ (r : Request). CannotBothWait r (Changes f)) (sym is)
            (ap (λ (y : DoneOf). y.fileset) e ∙ o.4),
      )

  wrote_does : Decides wrote w.host w.request
  wrote_does = subst (λ (r : Request). Decides wrote w.host r) (sym is) (inl (v, refl, refl, refl, refl))

  pub not_after : IsQueued after w → ⊥
  not_after (inl p) = absurd (cc)
  not_after (inr (inl p, q)) = absurd (cc)
  not_after (inr (inr p, q)) = p.1 (inl wrote_does)

  pub back_after : (u : Wanted) → IsQueued after u → IsQueued past u
  back_after u (inl p) = absurd (cc)
  back_after u (inr (inl p, q)) = absurd (cc)
  back_after u (inr (inr p, q)) = p.0

  -- all others wait as before
  other : (u : Wanted) → IsQueued past u → (h : u.host ≡ w.host) → CannotBothWait w.request u.request → u ≡ w
  other u p h k = z.wants.once u w p waits h (same_sym w.request u.request k)

  on_written : (u : Wanted) → IsQueued past u → (u ≡ w → ⊥) → IsQueued written u
  on_written u p apart = inr (p, not)
    where
      not : Unwants past wrote u → ⊥
      not (inl o) = let k = wrote_same u.host u.request o in apart (other u p k.0 k.1)
      not (inr (inl o)) = let q = o.1 in cc
      not (inr (inr (inl g))) = elim g [ inl q ↦ (let y = q.2 in cc) | inr q ↦ (let y = q.0.1 in cc) ]
      not (inr (inr (inr o))) = let y = o.1 in cc

  pub on_after : (u : Wanted) → IsQueued past u → (u ≡ w → ⊥) → IsQueued after u
  on_after u p apart = inr (on_written u p apart, not)
    where
      not : Unwants written told u → ⊥
      not (inl o) = let k = told_same u.host u.request o in apart (other u p k.0 k.1)
      not (inr (inl o)) = let q = o.1 in cc
      not (inr (inr (inl g))) = elim g [ inl q ↦ (let y = q.2 in cc) | inr q ↦ (let y = q.0.1 in cc) ]
      not (inr (inr (inr o))) = let y = o.1 in cc

  pub before_after : (u o : Wanted) → (u ≡ w → ⊥) → (o ≡ w → ⊥) → IsQueued past u → IsQueued past o
      → IsQueuedBefore past u o → IsQueuedBefore after u o
  before_after u o a b p q t = (inr (inr t, on_written u p a, on_written o q b), on_after u p a, on_after o q b)

  pub before_back : (u o : Wanted) → IsQueuedBefore after u o → IsQueuedBefore past u o
  before_back u o t = elim t.0 [
    | inl p ↦ absurd (let q = p.1 in cc)
    | inr p ↦ elim p.0 [ inl q ↦ absurd (let r = q.1 in cc) | inr q ↦ q ]
  ]

  live_after : (h : HostId) → IsLive past h → IsLive after h
  live_after h l = live_still written told told_hosts.calm h (live_still past wrote wrote_hosts.calm h l)

  pub over_after : NoGrace after
  over_after = over_still written told told_hosts.calm (over_still past wrote wrote_hosts.calm over)

  -- `qs` are the wants without it
  module _ (qs : List Pending) (of : (p : Pending) → In p qs → In p x.pending × (p.wanted ≡ w → ⊥))
      (all : (p : Pending) → In p x.pending → (p.wanted ≡ w → ⊥) → In p qs) where
    pub wants_after : WantsStand after x.server x.next qs
    wants_after = record {
      pending = λ p i. on_after p.wanted (z.wants.pending p (of p i).0) (of p i).1;
      pending_all = λ u y. (let q = z.wants.pending_all u (back_after u y) in
          (q.0, all q.0 q.1 (λ same. not_after (subst (IsQueued after) (sym q.2 ∙ same) y)), q.2));
      order = λ p q i j l.
          before_after p.wanted q.wanted (of p i).1 (of q j).1 (z.wants.pending p (of p i).0) (z.wants.pending q
          (of q j).0)
          (z.wants.order p q (of p i).0 (of q j).0 l);
      order_all = λ p q i j t. z.wants.order_all p q (of p i).0 (of q j).0 (before_back p.wanted q.wanted t);
      live = λ u y. live_after u.host (z.wants.live u (back_after u y));
      took = λ u y.
          inr (inr (z.wants.took u (back_after u y), λ b. let p = b.1 in cc), λ b. let p = b.1 in cc);
      here = λ u y. asked_by x.server past after (λ f. refl) u.moves u.request (z.wants.here u (back_after u y));
      once = λ u o p q. z.wants.once u o (back_after u p) (back_after o q);
      few = λ p i. z.wants.few p (of p i).0;
      below = λ p i. z.wants.below p (of p i).0;
    }

    -- `new` are the last answers
    module _ (new : List LastChange) (renewed : IsRenewed x.changes new (record {
      host = w.host;
      fileset = c.fileset;
      epoch = x.hosts.epoch;
      done = d;
      written = Some v;
    })) where
      abbrev entry : LastChange
      entry = record { host = w.host; fileset = c.fileset; epoch = x.hosts.epoch; done = d; written = Some v }

      sent_were : (h : HostId) (e n : ℕ) (o : DoneOf) → SentTo after h e n (Done o)
          → ((h ≡ w.host) × (o ≡ d)) ⊎ SentTo past h e n (Done o)
      sent_were h e n o (inl p) = inl ((let q = p in cc), sym (its_done h e n o p))
      sent_were h e n o (inr (inl p)) = absurd (cc)
      sent_were h e n o (inr (inr p)) = inr p

      wrote_were : (o : Written) → WroteThis after o → (o ≡ v) ⊎ WroteThis past o
      wrote_were o (inl p) = absurd (cc)
      wrote_were o (inr (inl p)) = inl (let q = p in cc)
      wrote_were o (inr (inr p)) = inr p

      was_written : (acts : List Doing) (o : Written) → WroteThis acts o
          → WasWritten acts o.answer.host o.fileset o.number
      was_written [] o p = p
      was_written (a ∷ acts) o (inl p) = inl (o, p, refl, refl, refl)
      was_written (a ∷ acts) o (inr p) = inr (was_written acts o p)

      not_above : (o : Written) → WroteThis past o → o.answer.host ≡ w.host → o.fileset ≡ c.fileset
          → o.number ≤ c.number
      not_above o p h f = elim (cases_lt o.number c.number) [
        | inl l ↦ omega (arith, l)
        | inr l ↦ absurd (fresh_number (
          o.number,
          l,
          subst (λ
              (y : HostId × FilesetId). WasWritten past y.0 y.1 o.number)
              (λ i. (h i, f i)) (was_written past o p),
        ))
      ]

      is_last_entry : IsLastChange after entry
      is_last_entry = record {
        n = w.moves;
        sent = inl refl;
        of = refl;
        top = λ e n o t f. elim (sent_were w.host e n o t) [
          | inl p ↦ (let q : o.bring.number ≡ c.number = ap (λ (y : DoneOf). y.bring.number) p.1 in omega (arith, q))
          | inr p ↦ top e n o p f
        ];
        newest = λ n o t f. inl z.hosts.epoch_is;
        wrote = λ o p. (
          inr (inl (let q : v ≡ o = (let r = p in cc) in ap WritesDown q)),
          (let q : v ≡ o = (let r = p in cc) in ap (λ (y : Written). y.answer.host) (sym q)),
          (let q : v ≡ o = (let r = p in cc) in ap (λ (y : Written). y.fileset) (sym q)),
        );
        wrote_all = λ o t h f. (
          v,
          refl,
          elim (wrote_were o t) [
            | inl p ↦ (let q : o.number ≡ c.number = ap (λ (y : Written). y.number) p in omega (arith, q))
            | inr p ↦ not_above o p h f
          ],
        );
        home = decided_home x.server past c.fileset w.moves z.slots
            (subst (IsAskedHere x.server past w.moves) is (z.wants.here w waits)).0;
        reply = λ o p. (let q : v ≡ o = (let r = p in cc) in
            inr (ap (λ (y : Written). y.number) (sym q), ap (λ (y : Written). HasReply y.answer.reply) q, refl, refl));
        brings = λ t i. elim i [ ];
      }

      -- another answer stays what it was
      is_last_other : (l : LastChange) → IsLastChange past l → (l.host ≡ w.host → l.fileset ≡ c.fileset → ⊥)
          → IsLastChange after l
      is_last_other l k apart = record {
        n = k.n;
        sent = inr (inr k.sent);
        of = k.of;
        top = λ e n o t f. elim (sent_were l.host e n o t) [
          | inl p ↦ absurd (apart p.0 (sym f ∙ ap (λ (q : DoneOf). q.fileset) p.1))
          | inr p ↦ k.top e n o p f
        ];
        newest = λ n o t f. elim (sent_were l.host (epoch past) n o t) [
          | inl p ↦ absurd (apart p.0 (sym f ∙ ap (λ (q : DoneOf). q.fileset) p.1))
          | inr p ↦ k.newest n o p f
        ];
        wrote = λ o p. (let q = k.wrote o p in (inr (inr q.0), q.1, q.2));
        wrote_all = λ o t h f. elim (wrote_were o t) [
          | inl p ↦ absurd (apart (sym h ∙ ap (λ (q : Written). q.answer.host) p)
              (sym f ∙ ap (λ (q : Written). q.fileset) p))
          | inr p ↦ k.wrote_all o p h f
        ];
        reply = k.reply;
        brings = k.brings;
        home = k.home;
      }

      -- the entry of a host and a fileset
      found : (l : LastChange) → In l x.changes → (h : HostId) (f : FilesetId) → l.host ≡ h → l.fileset ≡ f
          → (q : LastChange) × In q new × (q.host ≡ h) × (q.fileset ≡ f)
      found l i h f p q = elim (cases_Bool ((l.host.0 == w.host.0) && (l.fileset.0 == c.fileset.0))) [
        | inl same ↦ (let r = both (l.host.0 == w.host.0) (l.fileset.0 == c.fileset.0) same in
            (entry, renewed.has, sym (same_host l.host w.host r.0) ∙ p, sym (same_fileset l.fileset c.fileset r.1) ∙ q))
        | inr no_same ↦ (
          l,
          renewed.all l i (λ h1 f1. false≢true (sym no_same
              ∙ and_from (l.host.0 == w.host.0) (l.fileset.0 == c.fileset.0)
              (eq-eqb l.host.0 w.host.0 (ap (λ (y : HostId). y.0) h1))
              (eq-eqb l.fileset.0 c.fileset.0 (ap (λ (y : FilesetId). y.0) f1)))),
          p,
          q,
        )
      ]

      -- another Change of the host and the fileset doesn't wait
      lone : (u : Wanted) (o : ChangeOf) → IsQueued after u → u.request ≡ Changes o → u.host ≡ w.host
          → o.fileset ≡ c.fileset → ⊥
      lone u o p k h f =
          let same : CannotBothWait w.request u.request =
          subst (λ (r : Request). CannotBothWait r u.request) (sym is)
          (subst (CannotBothWait (Changes c)) (sym k) (sym f)) in
          not_after (subst (IsQueued after) (other u (back_after u p) h same) p)

      fresh_other : (u : Wanted) (o : ChangeOf) → IsQueued after u → u.request ≡ Changes o
          → IsDurable after u.host o.fileset o.number → ⊥
      fresh_other u o p k (later, le, inl q) = let r = q.1 in cc
      fresh_other u o p k (later, le, inr (inl q)) =
          let e : v ≡ q.0 = (let r = q.1 in cc) in
          lone u o p k (sym (ap (λ (y : Written). y.answer.host) e ∙ q.2))
          (sym (ap (λ (y : Written). y.fileset) e ∙ q.3))
      fresh_other u o p k (later, le, inr (inr q)) = z.changes.fresh u o (back_after u p) k (later, le, q)

      pub changes_after : ChangesStand after new
      changes_after = record {
        last = λ l i. elim (renewed.of l i) [
          | inl e ↦ subst (IsLastChange after) (sym e) is_last_entry
          | inr q ↦ is_last_other l (z.changes.last l q.0) q.1
        ];
        last_all = λ h e n o t. elim (sent_were h e n o t) [
          | inl p ↦ (entry, renewed.has, sym p.0, sym (ap (λ (q : DoneOf). q.fileset) p.1))
          | inr p ↦ (let q = z.changes.last_all h e n o p in found q.0 q.1 h o.fileset q.2 q.3)
        ];
        answered = λ o t. elim (wrote_were o t) [
          | inl p ↦ (
            entry,
            renewed.has,
            sym (ap (λ (q : Written). q.answer.host) p),
            sym (ap (λ (q : Written). q.fileset) p),
          )
          | inr p ↦ (let q = z.changes.answered o p in found q.0 q.1 o.answer.host o.fileset q.2 q.3)
        ];
        fresh = λ u o p k old. fresh_other u o p k old;
        above = λ u o e n r p k t f. elim (sent_were u.host e n r t) [
          | inl q ↦ absurd (lone u o p k q.0 (sym f ∙ ap (λ (y : DoneOf). y.fileset) q.1))
          | inr q ↦ z.changes.above u o e n r (back_after u p) k q f
        ];
      }

      -- all tables, once it is written down and answered; `left` is the manager's queue
      pub stands_after : (left : List WantOf) → left ≡ map want_for qs
          → Stands after (record x { changes = new; pending = qs; tokens = record x.tokens { queue = left } })
      stands_after left queue_is = record {
        slots = z.slots;
        hosts = hosts_still written told told_hosts (hosts_still past wrote wrote_hosts z.hosts);
        tokens = tokens_still written told told_hosts.calm x.server told_tokens
            (tokens_still past wrote wrote_hosts.calm x.server wrote_tokens z.tokens);
        stamps = stamps_still written told told_hosts.calm x.server told_tokens told_tells
            (stamps_still past wrote wrote_hosts.calm x.server wrote_tokens wrote_tells z.stamps);
        wants = wants_after;
        queue = record { calm = λ o. queue_is; grace = λ o. absurd (o over_after) };
        gives = gives_still written told told_hosts.calm x.server told_claims
            (gives_still past wrote wrote_hosts.calm x.server wrote_claims z.gives);
        changes = changes_after;
        recovery = recovery_still written told told_hosts.calm x.server told_claims told_tokens.names
            (recovery_still past wrote wrote_hosts.calm x.server wrote_claims wrote_tokens.names z.recovery);
      }
