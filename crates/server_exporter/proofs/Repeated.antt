-- A Done that is said once more changes none of a server's words: its tokens are granted already.
use Rattle.std.proofs.Common.{◌≡◌, ◌⊎◌, ◌≤◌, ℕ, Bool, true, false, List, [], ◌∷◌, Some, inl, inr, refl, sym, ◌∙◌}
use Rattle.std.proofs.Common.{if◌then◌else◌, subst, ap, arith}
use Rattle.base_types.specs.declared.ids.Fid.{Fid}
use Rattle.base_types.specs.declared.ids.FilesetId.{FilesetId}
use Rattle.base_types.specs.declared.ids.HostId.{HostId}
use Rattle.token_types.specs.declared.token.Token.{Token}
use Rattle.message_types.specs.declared.asking.Change.{Change as ChangeOf}
use Rattle.message_types.specs.declared.message.Body.TheVariants.{Done}
use Rattle.message_types.specs.declared.telling.Bring.{Bring}
use Rattle.message_types.specs.declared.telling.Done.{Done as DoneOf}
use Rattle.message_types.specs.declared.telling.DoneIs.TheVariants.{Again}
use Rattle.run_rules.specs.Doings.{BringsTokens, Doing, Granted, HasUsedStamp, InEpoch, IsDurable, IsLive}
use Rattle.run_rules.specs.Doings.{IsNewEpoch, IsNewlyGranted, Issued, Issues, Pinned, SentTo, StayStamp, UsesStamp}
use Rattle.run_rules.specs.Doings.{WasWritten, epoch}
use Rattle.run_rules.specs.Doings.Doing.{Sent}
use Rattle.run_rules.specs.Past.{In}
use Rattle.run_rules.specs.ServerDecides.{IsDecidedHere}
use Rattle.run_rules.specs.ServerMay.{HasRevoked}
use Rattle.run_rules.specs.Wants.{Decides, IsQueued, IsQueuedBefore, Unwants}
use Rattle.run_rules.specs.declared.applied.Request.{Request}
use Rattle.run_rules.specs.declared.applied.Request.TheVariants.{Change as Changes, Fetch as Asks}
use Rattle.run_rules.specs.declared.applied.Wanted.{Wanted}
use Rattle.run_rules.specs.declared.applied.Written.{Written}
use Rattle.server_tables.specs.Answers.{AreLastChanges, answer_again, done_without, is_lost, is_old}
use Rattle.server_tables.specs.Standing.{ChangesStand, IsLastChange, Stands, StampsStand, TokensStand}
use Rattle.server_tables.specs.Standing.{WroteThis}
use Rattle.server_tables.specs.declared.tables.LastChange.{LastChange}
use Rattle.server_tables.specs.declared.tables.Tables.{Tables}
use Rattle.server_tables.proofs.Again.{IsAgain, again_brings, again_of_change, is_again, when}
use Rattle.server_tables.proofs.Alike.{Both, IsInner, SameHeard, both_then, granted_inner, heard_inner, live_both}
use Rattle.server_tables.proofs.Alike.{names_none, pinned_inner, reclaimed_inner, sent_inner, unwants_inner}
use Rattle.server_tables.proofs.Drafting.{SameReady}
use Rattle.server_tables.proofs.Idle.{up_to}
use Rattle.server_tables.proofs.Still.{ClaimsStill, HostsCalm, HostsStill, gives_still, hosts_still}
use Rattle.server_tables.proofs.Still.{queue_still, recovery_still, wants_still}
use Rattle.server_exporter.specs.Machines.{AreTold}

was_issued : (past : List Doing) (h : HostId) (e n : ℕ) (d : DoneOf) → SentTo past h e n (Done d) → (t : Token)
    → In t d.bring.tokens → Issued past t (record { moves = n; stamp = d.bring.stamp })
was_issued [] h e n d s t i = elim s [ ]
was_issued (a ∷ past) h e n d (inl p) t i = inl (h, e, d.bring, inr (d, p, refl), i, refl)
was_issued (a ∷ past) h e n d (inr s) t i = inr (was_issued past h e n d s t i)

was_used : (past : List Doing) (h : HostId) (e n : ℕ) (d : DoneOf)
    → InEpoch (λ before a. a ≡ Sent h e n (Done d)) past → HasUsedStamp past d.bring.fid d.bring.stamp
was_used [] h e n d s = elim s [ ]
was_used (a ∷ past) h e n d (inl p) = inl (inl (h, e, n, d.bring, inr (d, p, refl), refl, refl))
was_used (a ∷ past) h e n d (inr s) = inr (was_used past h e n d s.0, s.1)

was_written : (past : List Doing) (v : Written) (h : HostId) (f : FilesetId) → WroteThis past v → v.answer.host ≡ h
    → v.fileset ≡ f → WasWritten past h f v.number
was_written [] v h f o host fileset = elim o [ ]
was_written (a ∷ past) v h f (inl p) host fileset = inl (v, p, host, fileset, refl)
was_written (a ∷ past) v h f (inr o) host fileset = inr (was_written past v h f o host fileset)

both_wait : (acts : List Doing) (w v : Wanted) → IsQueuedBefore acts w v → IsQueued acts w × IsQueued acts v
both_wait [] w v o = absurd o
both_wait (x ∷ acts) w v o = (o.1, o.2)

module _ (past : List Doing) (x : Tables) (z : Stands past x) (h : HostId) (c : ChangeOf) (live : IsLive past h)
    (here : IsDecidedHere x.server past c.fileset 0) (old : is_old x h c ≡ true) (d : DoneOf)
    (again : answer_again x h c ≡ Some d) (single : AreLastChanges x.changes) (said : AreTold x.server past) where
  abbrev told : Doing
  told = Sent h x.hosts.epoch 0 (Done d)

  inner : IsInner told
  inner = sent_inner h x.hosts.epoch 0 (Done d)

  its : IsAgain x h c d
  its = is_again x h c d again

  abbrev l : LastChange
  l = its.last

  k : IsLastChange past l
  k = z.changes.last l its.has

  why : (l.epoch ≡ epoch past) ⊎ ((w : Written) × (l.written ≡ Some w) × (c.number ≤ w.number))
  why = when past x z h c old d its

  of_it : (d.fileset ≡ c.fileset) × (d.bring.number ≡ c.number)
  of_it = again_of_change past x z h c old d its

  its_host : (i : HostId) (e n : ℕ) (o : DoneOf) → told ≡ Sent i e n (Done o) → h ≡ i
  its_host i e n o p = cc

  its_done : (i : HostId) (e n : ℕ) (o : DoneOf) → told ≡ Sent i e n (Done o) → d ≡ o
  its_done i e n o p = cc

  sent_at : (e : ℕ) → l.epoch ≡ e → SentTo past h e 0 (Done l.done)
  sent_at e q = subst (λ (i : HostId). SentTo past i e 0 (Done l.done)) its.host
      (subst (λ (m : ℕ). SentTo past l.host e m (Done l.done)) k.home
      (subst (λ (m : ℕ). SentTo past l.host m k.n (Done l.done)) q k.sent))

  -- # No want that waits is decided by it

  none_of : (w : Wanted) (o : ChangeOf) → IsQueued past w → w.request ≡ Changes o → h ≡ w.host
      → d.fileset ≡ o.fileset → d.bring.number ≡ o.number → ⊥
  none_of w o waits is host fileset number = elim why [
    | inl e ↦ said.unsaid w o 0 l.done waits is
        (subst (λ (i : HostId). SentTo past i (epoch past) 0 (Done l.done)) host (sent_at (epoch past) e))
        (k.of ∙ its.fileset ∙ sym of_it.0 ∙ fileset) (its.number ∙ sym of_it.1 ∙ number)
    | inr v ↦ z.changes.fresh w o waits is (
      v.0.number,
      (let a = of_it.1 in let b = v.2 in let f = number in omega (arith, a, b, f)),
      (let r = k.wrote v.0 v.1 in was_written past v.0 w.host o.fileset r.0 (r.1 ∙ its.host ∙ host)
          (r.2 ∙ its.fileset ∙ sym of_it.0 ∙ fileset)),
    )
  ]

  decides_none : (w : Wanted) → IsQueued past w → Decides told w.host w.request → ⊥
  decides_none w waits = by w.request refl
    where
      by : (r : Request) → w.request ≡ r → Decides told w.host r → ⊥
      by (Asks f) q v = let e = v.3 in cc
      by (Changes o) q (inl v) = let e = v.1 in cc
      by (Changes o) q (inr v) =
          let same = its_done w.host v.0 v.1 v.2 v.3 in
          none_of w o waits q (its_host w.host v.0 v.1 v.2 v.3) (ap (λ (y : DoneOf). y.fileset) same ∙ v.4)
          (ap (λ (y : DoneOf). y.bring.number) same ∙ v.5)

  stays : (w : Wanted) → IsQueued past w → Unwants past told w → ⊥
  stays w waits u = elim ((unwants_inner x.server past told inner w).0 u) [
    | inl q ↦ decides_none w waits q
    | inr m ↦ (let q = m.1 in cc)
  ]

  on : (w : Wanted) → IsQueued past w → IsQueued (told ∷ past) w
  on w waits = inr (waits, stays w waits)

  back : (w : Wanted) → IsQueued (told ∷ past) w → IsQueued past w
  back w (inl q) = absurd (cc)
  back w (inr q) = q.0

  -- # Its tokens are granted

  in_none : (ts : List Token) (t : Token) → ts ≡ [] → In t ts → ⊥
  in_none ts t e i = let j : In t [] = subst (In t) e i in j

  was_granted : (t : Token) → In t d.bring.tokens → Granted x.server past t
  was_granted t i = elim (again_brings past x z h c old d its) [
    | inl e ↦ absurd (in_none d.bring.tokens t e i)
    | inr s ↦ s.1 t i
  ]

  was_brought : (t : Token) → In t d.bring.tokens → Issued past t (record { moves = 0; stamp = d.bring.stamp })
  was_brought t i = elim (again_brings past x z h c old d its) [
    | inl e ↦ absurd (in_none d.bring.tokens t e i)
    | inr s ↦ was_issued past h (epoch past) 0 d s.0 t i
  ]

  its_bring : (i : HostId) (e n : ℕ) (b : Bring) → BringsTokens told i e n b → d.bring ≡ b
  its_bring i e n b (inl v) = absurd (let q = v.1 in cc)
  its_bring i e n b (inr v) = ap (λ (y : DoneOf). y.bring) (its_done i e n v.0 v.1) ∙ v.2

  its_token : (t : Token) (m : StayStamp) → Issues told t m → In t d.bring.tokens
  its_token t m v = subst (λ (b : Bring). In t b.tokens) (sym (its_bring v.0 v.1 m.moves v.2 v.3)) v.4

  newly : (t : Token) → IsNewlyGranted told t → Granted x.server past t
  newly t (inl v) = was_granted t (its_token t v.0 v.1)
  newly t (inr v) = absurd (let q = v.1 in cc)

  same_granted : (t : Token) → Both (Granted x.server (told ∷ past) t) (Granted x.server past t)
  same_granted t = both_then (granted_inner x.server past told inner t)
      (λ v. elim v [ inl y ↦ newly t y | inr y ↦ y ], λ y. inr y)

  same_pinned : (t : Token) → Both (Pinned x.server (told ∷ past) t) (Pinned x.server past t)
  same_pinned t = pinned_inner x.server past told inner t

  heard : SameHeard x.server (told ∷ past) past
  heard = heard_inner x.server past told inner

  tokens_again : TokensStand (told ∷ past) x.server x.tokens.grants
  tokens_again = let s = z.tokens in record {
    server_is = s.server_is;
    epoch_is = s.epoch_is;
    granted = λ t m. (same_granted t).1 (s.granted t m);
    granted_all = λ t g. s.granted_all t ((same_granted t).0 g);
    pinned = λ t m p. (same_pinned t).1 (s.pinned t m p);
    pinned_all = λ t p. s.pinned_all t ((same_pinned t).0 p);
    here = λ t g w. s.here t ((same_granted t).0 g) ((heard.away t.host).0 w);
    live = λ t g. (live_both x.server (told ∷ past) past heard t.host).1 (s.live t ((same_granted t).0 g));
    known = s.known;
    issued = λ t m i e. elim i [
      | inl v ↦ s.old t (s.granted_all t (was_granted t (its_token t m v))) e
      | inr v ↦ s.issued t m v e
    ];
    issued_up_to = λ t m i. elim i [
      | inl v ↦ s.issued_up_to t (record { moves = 0; stamp = d.bring.stamp }) (was_brought t (its_token t m v))
      | inr v ↦ s.issued_up_to t m v
    ];
    noted = s.noted;
    old = s.old;
    none_reserved = λ t r. s.none_reserved t ((heard.reserved t).0 r);
    one = λ t u m i e g q. elim i [
      | inl v ↦ s.one t u (record { moves = 0; stamp = d.bring.stamp }) (was_brought t (its_token t m v)) e
          ((same_granted u).0 g) q
      | inr v ↦ s.one t u m v e ((same_granted u).0 g) q
    ];
  }

  -- # Its stamp

  abbrev anew : DoneOf
  anew = done_without l.done.fileset Again l.done.bring.number

  abbrev either : Bool → DoneOf
  either lost = if lost then anew else l.done

  stamp_low : d.bring.stamp ≤ x.stamp
  stamp_low = subst (λ (o : DoneOf). o.bring.stamp ≤ x.stamp) its.so (by (is_lost x.tokens.grants l.done.bring))
    where
      used : l.epoch ≡ epoch past → l.done.bring.stamp ≤ x.stamp
      used e = z.stamps.told l.done.bring.fid l.done.bring.stamp
          (was_used past h (epoch past) 0 l.done (said.since h 0 (Done l.done) (sent_at (epoch past) e)))

      none : (w : Written) → l.written ≡ Some w → c.number ≤ w.number → l.done.bring.stamp ≤ x.stamp
      none w e le = elim (k.reply w e) [
        | inl q ↦ absurd (let n = its.number in omega (arith, le, q, n))
        | inr q ↦ (let n = q.3 in omega (arith, n))
      ]

      by : (b : Bool) → (either b).bring.stamp ≤ x.stamp
      by true = omega (arith)
      by false = elim why [ inl e ↦ used e | inr w ↦ none w.0 w.1 w.2 ]

  tells : (f : Fid) (n : ℕ) → UsesStamp told f n → n ≤ x.stamp
  tells f n (inl v) = subst (λ (y : ℕ). y ≤ x.stamp)
      (ap (λ (b : Bring). b.stamp) (its_bring v.0 v.1 v.2 v.3 v.4) ∙ v.6) stamp_low
  tells f n (inr v) = absurd (let q = v.4 in cc)

  revoked_back : (t : Token) → HasRevoked (told ∷ past) t → HasRevoked past t
  revoked_back t (inl p) = absurd (let q = p.3 in cc)
  revoked_back t (inr p) = p.0

  begin : IsNewEpoch told → ⊥
  begin v = let q = v.1 in cc

  stamps_again : StampsStand (told ∷ past) x.tokens.grants x.stamp
  stamps_again = let s = z.stamps in record {
    told = λ f n w. elim w [ inl q ↦ tells f n q | inr q ↦ s.told f n q.0 ];
    revoked = λ t m i. inr (s.revoked t m i, begin);
    revoked_all = λ t m w. s.revoked_all t m (revoked_back t w);
    revoked_old = λ t w e. s.revoked_old t (revoked_back t w) e;
    revoked_live = λ t w. (reclaimed_inner x.server past told inner t.host).1
        (inr (s.revoked_live t (revoked_back t w)));
  }

  -- # It is what was answered last

  wrote_back : (w : Written) → WroteThis (told ∷ past) w → WroteThis past w
  wrote_back w (inl p) = absurd (cc)
  wrote_back w (inr p) = p

  durable_back : (i : HostId) (f : FilesetId) (n : ℕ) → IsDurable (told ∷ past) i f n → IsDurable past i f n
  durable_back i f n (m, e, inl p) = absurd (let q = p.1 in cc)
  durable_back i f n (m, e, inr p) = (m, e, p)

  module _ (m : LastChange) (has : In m x.changes) where
    abbrev s : IsLastChange past m
    s = z.changes.last m has

    is_it : (e n : ℕ) (o : DoneOf) → told ≡ Sent m.host e n (Done o) → o.fileset ≡ m.fileset → l ≡ m
    is_it e n o p of = single l m its.has has (its.host ∙ its_host m.host e n o p)
        (its.fileset ∙ sym of_it.0 ∙ ap (λ (y : DoneOf). y.fileset) (its_done m.host e n o p) ∙ of)

    same_number : (e n : ℕ) (o : DoneOf) → told ≡ Sent m.host e n (Done o) → o.fileset ≡ m.fileset
        → o.bring.number ≡ m.done.bring.number
    same_number e n o p of =
        ap (λ (y : DoneOf). y.bring.number) (sym (its_done m.host e n o p)) ∙ of_it.1 ∙ sym its.number
        ∙ ap (λ (y : LastChange). y.done.bring.number) (is_it e n o p of)

    abbrev Newest : LastChange → Type 0
    Newest y = (y.epoch ≡ epoch past)
        ⊎ ((w : Written) × (y.written ≡ Some w) × (y.done.bring.number ≤ w.number))

    newest_l : Newest l
    newest_l = elim why [
      | inl e ↦ inl e
      | inr w ↦ inr (w.0, w.1, (let a = its.number in let b = w.2 in omega (arith, a, b)))
    ]

    last_with : IsLastChange (told ∷ past) m
    last_with = record {
      n = s.n;
      sent = inr s.sent;
      home = s.home;
      of = s.of;
      top = λ e n o w of. elim w [
        | inl p ↦ (let q = same_number e n o p of in omega (arith, q))
        | inr p ↦ s.top e n o p of
      ];
      newest = λ n o w of. elim w [
        | inl p ↦ subst Newest (is_it (epoch past) n o p of) newest_l
        | inr p ↦ s.newest n o p of
      ];
      wrote = λ w is. (let p = s.wrote w is in (inr p.0, p.1, p.2));
      wrote_all = λ w t. s.wrote_all w (wrote_back w t);
      reply = s.reply;
      brings = s.brings;
    }

  changes_again : ChangesStand (told ∷ past) x.changes
  changes_again = let s = z.changes in record {
    last = last_with;
    last_all = λ i e n o t. elim t [
      | inl p ↦ (
        l,
        its.has,
        its.host ∙ its_host i e n o p,
        its.fileset ∙ sym of_it.0 ∙ ap (λ (y : DoneOf). y.fileset) (its_done i e n o p),
      )
      | inr p ↦ s.last_all i e n o p
    ];
    answered = λ v t. s.answered v (wrote_back v t);
    fresh = λ w o u is was. s.fresh w o (back w u) is (durable_back w.host o.fileset o.number was);
    above = λ w o e n v u is t f. elim t [
      | inl p ↦
          (let same = its_done w.host e n v p in
          let up = s.above w o l.epoch k.n l.done (back w u) is
          (subst (λ (i : HostId). SentTo past i l.epoch k.n (Done l.done)) (its.host ∙ its_host w.host e n v p) k.sent)
          (k.of ∙ its.fileset ∙ sym of_it.0 ∙ ap (λ (y : DoneOf). y.fileset) same ∙ f) in
          let a = its.number in let b = of_it.1 in
          let g : d.bring.number ≡ v.bring.number = ap (λ (y : DoneOf). y.bring.number) same in
          omega (arith, up, a, b, g))
      | inr p ↦ s.above w o e n v (back w u) is p f
    ];
  }

  -- # All else is as it was

  calm : HostsCalm past told
  calm = record {
    begin = begin;
    still = λ m. let q = m.1 in cc;
    away = λ i v. absurd (elim v [ inl f ↦ (let q = f.2 in cc) | inr f ↦ (let q = f.0.1 in cc) ]);
    admits = λ i ts q. cc;
  }

  word_hosts : HostsStill past told
  word_hosts = record {
    calm = calm;
    hello = λ i f g o. let q = f.2 in cc;
    down = λ i f. absurd (let q = f.2 in cc);
    sends = up_to past h x.hosts.epoch 0 (Done d) z.hosts.epoch_is;
  }

  claims : ClaimsStill x.server past told
  claims = record {
    gives = λ i f g t. let q = t.2.0 in cc;
    claims = λ i n g t. let q = t.0 in cc;
  }

  pub stands_again : Stands (told ∷ past) x
  stands_again = record {
    slots = z.slots;
    hosts = hosts_still past told word_hosts z.hosts;
    tokens = tokens_again;
    stamps = stamps_again;
    wants = wants_still past told calm x.server (record { wants = λ w q. cc; unwants = stays }) z.wants;
    queue = queue_still past told calm z.queue;
    gives = gives_still past told calm x.server claims z.gives;
    changes = changes_again;
    recovery = recovery_still past told calm x.server claims (names_none x.server past told inner) z.recovery;
  }

  pub ready_again : SameReady x.server (told ∷ past) past
  ready_again = record {
    heard = heard;
    reclaimed = λ i. both_then (reclaimed_inner x.server past told inner i)
        (λ v. elim v [ inl y ↦ absurd (let q = y.1 in cc) | inr y ↦ y ], λ y. inr y);
    granted = same_granted;
    pinned = same_pinned;
    written = λ i f n. (λ v. elim v [ inl y ↦ absurd (let q = y.1 in cc) | inr y ↦ y ], λ y. inr y);
    wrote = λ w. (λ v. elim v [ inl y ↦ absurd (cc) | inr y ↦ y ], λ y. inr y);
    queued = λ w. (back w, on w);
    before = λ w v. (
      λ o. elim o.0 [ inl y ↦ absurd (let q = y.1 in cc) | inr y ↦ y ],
      λ o. (let waits = both_wait past w v o in (inr o, on w waits.0, on v waits.1)),
    );
  }
