-- A doing of a server but the begin of an epoch keeps what it has by itself, and what it has with each host.
use Rattle.run_rules.specs.Doings.{BringsTokens, Doing, GivenUp, GivesUp, GoesAway, Granted, HasGoneAway, HasReclaimed}
use Rattle.run_rules.specs.Doings.{HasUsedStamp, Here, IsApplied, IsLive, IsNewEpoch, Issued, Issues, NoGrace}
use Rattle.run_rules.specs.Doings.{Reserved, SentTo, StayStamp, TakesOf, TookNow, TookOf, epoch}
use Rattle.run_rules.specs.Doings.Doing.{Admits, Reserves, Took}
use Rattle.run_rules.specs.Messages.{HasSaid, HasStopped, Said, epoch_at, home}
use Rattle.run_rules.specs.Past.{In}
use Rattle.run_rules.specs.ServerTokens.{ClaimsHere, IsGrantedId, MayAdmit, MayBring, ServerTokens}
use Rattle.run_rules.specs.Tokens.{AboveFloor, Made, NamesGive, Owns, number_of}
use Rattle.run_tokens.specs.TokenLaws.{HasLeftHost, HasReturnedToken, TookEver}
use Rattle.run_tokens.proofs.Words.{TookGiven, given_up, gives_up}
use Rattle.std.proofs.Common.{◌≡◌, ℕ, ◌<◌, ◌≤◌, ◌⊎◌, true, List, [], ◌∷◌, inl, inr, sym, ◌∙◌, ap, subst, refl, arith}
use Rattle.std.proofs.lemmas.Bool.{cases_lt}
use Rattle.base_types.specs.declared.ids.HostId.{HostId}
use Rattle.base_types.specs.declared.ids.ServerId.{ServerId}
use Rattle.base_types.specs.declared.ids.FilesetId.{FilesetId}
use Rattle.base_types.specs.declared.ids.Fid.{Fid}
use Rattle.token_types.specs.declared.token.TokenId.{TokenId}
use Rattle.token_types.specs.declared.token.Token.{Token}
use Rattle.token_types.specs.Conflicts.{conflict}
use Rattle.token_types.proofs.Symmetric.{conflict_both}
use Rattle.message_types.specs.declared.message.Body.{Body}
use Rattle.message_types.specs.declared.message.Body.TheVariants.{Fetch, Grant, Change, Done, Revoke, Returned, GiveBack, Gone, Reclaim, Reclaimed, Down, Bye}
use Rattle.message_types.specs.declared.tokens.Revoke.{Revoke as RevokeOf}
use Rattle.message_types.specs.declared.tokens.Named.{Named}
use Rattle.message_types.specs.declared.telling.Bring.{Bring}
use Rattle.message_types.specs.declared.telling.Grant.{Grant as GrantOf}
use Rattle.message_types.specs.declared.telling.Done.{Done as DoneOf}
use Rattle.message_types.specs.declared.giving.Give.{Give}
use Rattle.message_types.specs.declared.giving.AppliedGive.{AppliedGive}
use Rattle.message_types.specs.declared.giving.Outstanding.{Outstanding}
use Rattle.message_types.specs.declared.giving.Reclaim.{Reclaim as ReclaimOf}
use Rattle.message_types.specs.declared.giving.Reclaimed.{Reclaimed as ReclaimedOf}
use Rattle.run_rules.specs.declared.step.Step.{Step}
use Rattle.run_tokens.specs.Unmoved.{MovesOne}
use Rattle.run_tokens.proofs.Owed.{Stays, Owed}
use Rattle.run_tokens.proofs.Unmoved.{here_on, here_was, put_on}
use Rattle.run_tokens.proofs.Words.{said_returned, returned_left, made_left, of_two, brings_one, mark_is, made_at, took_applied}
use Rattle.run_tokens.proofs.Invariant.{Served, Alone, Link, Good, Spent, Brought, OwedId, IssuedBelow, Claiming}

-- the doing brings this token, new, under this mark
record New (v : ServerId) (S : List Doing) (a : Doing) (t : Token) (k : StayStamp) : Type 0 where
  to : HostId
  of : ℕ
  with : Bring
  brings : BringsTokens a to of k.moves with
  may : MayBring v S to k.moves with
  ask : Body
  asked : TookNow S to k.moves ask
  in_it : In t with.tokens
  stamp : with.stamp ≡ k.stamp

none_in : (t : Token) (ts : List Token) → ts ≡ [] → In t ts → ⊥
none_in t ts e m = subst (In t) e m

module _ (v : ServerId) (S : List Doing) (a : Doing) (served : Served v S) (may : ServerTokens v S a) (quiet : IsNewEpoch a → ⊥) (still : MovesOne a → ⊥) (same : epoch (a ∷ S) ≡ epoch S) (granted_owed : (t : Token) → Granted v S t → Owed v S t) where
  issues : (t : Token) (k : StayStamp) → Issues a t k → New v S a t k ⊎ (Issued S t k × Granted v S t)
  issues t k (h, d, w, inl (g, e, b), m, q) =
      let n = may.grants h d k.moves g e in
      inl (record { to = h; of = d; with = w; brings = inl (g, e, b); may = subst (MayBring v S h k.moves) b n.0; ask = Fetch n.1.0; asked = n.1.1; in_it = m; stamp = q })
  issues t k (h, d, w, inr (g, e, b), m, q) =
      elim (may.dones h d k.moves g e) [
        | inl none ↦ absurd (none_in t w.tokens (ap (λ (y : Bring). y.tokens) (sym b) ∙ none) m)
        | inr (inl n) ↦ inl (record { to = h; of = d; with = w; brings = inr (g, e, b); may = subst (MayBring v S h k.moves) b n.0; ask = Change n.1.0; asked = n.1.1; in_it = m; stamp = q })
        | inr (inr r) ↦
            (let j : In t g.bring.tokens = subst (λ (y : Bring). In t y.tokens) (sym b) m in
            (inr (subst (Issued S t) (mark_is (record { moves = k.moves; stamp = g.bring.stamp }) k refl (ap (λ (y : Bring). y.stamp) b ∙ q)) (served.dones h d k.moves g t r.0 j).issued, r.1 t j)))
      ]

  issued : (t : Token) (k : StayStamp) → Issued (a ∷ S) t k → New v S a t k ⊎ Issued S t k
  issued t k (inl i) = elim (issues t k i) [ inl n ↦ inl n | inr o ↦ inr o.0 ]
  issued t k (inr o) = inr o

  owes : (t : Token) → Owed v (a ∷ S) t → ((k : StayStamp) × New v S a t k) ⊎ Owed v S t
  owes t (inl i) = elim (issues t i.0 i.1) [ inl n ↦ inl (i.0, n) | inr o ↦ inr (granted_owed t o.1) ]
  owes t (inr o) = inr o.0

  unique' : (t u : Token) (x y : StayStamp) → Issued (a ∷ S) t x → Issued (a ∷ S) u y → t.id ≡ u.id → (t ≡ u) × (x ≡ y)
  unique' t u x y i j e = go (issued t x i) (issued u y j)
    where
      seqs : t.id.seq ≡ u.id.seq
      seqs = ap (λ (k : TokenId). k.seq) e

      epochs : t.id.epoch ≡ u.id.epoch
      epochs = ap (λ (k : TokenId). k.epoch) e

      go : New v S a t x ⊎ Issued S t x → New v S a u y ⊎ Issued S u y → (t ≡ u) × (x ≡ y)
      go (inl n) (inl m) =
          let one = brings_one a n.to m.to n.of m.of x.moves y.moves n.with m.with n.brings m.brings in
          (n.may.apart t u n.in_it (subst (λ (w : Bring). In u w.tokens) (sym one.1) m.in_it) e, mark_is x y one.2 (sym n.stamp ∙ (ap (λ (w : Bring). w.stamp) one.1 ∙ m.stamp)))
      go (inl n) (inr o) = absurd (let lt : u.id.seq < t.id.seq = n.may.new t u y n.in_it o (sym epochs ∙ n.may.now t n.in_it) in omega (arith, seqs))
      go (inr o) (inl m) = absurd (let lt : t.id.seq < u.id.seq = m.may.new u t x m.in_it o (epochs ∙ m.may.now u m.in_it) in omega (arith, seqs))
      go (inr o) (inr p) = served.unique t u x y o p e

  told' : (t : Token) (k : StayStamp) → Issued (a ∷ S) t k → t.id.epoch ≡ epoch (a ∷ S) → HasUsedStamp (a ∷ S) t.fid k.stamp
  told' t k i e =
      elim (issued t k i) [
        | inl n ↦ inl (inl (n.to, n.of, k.moves, n.with, n.brings, sym (n.may.file t n.in_it), n.stamp))
        | inr o ↦ inr (served.told t k o (e ∙ same), quiet)
      ]

  id' : (t : Token) (k : StayStamp) → Issued (a ∷ S) t k → t.id.server ≡ v
  id' t k i = elim (issued t k i) [ inl n ↦ n.may.id t n.in_it | inr o ↦ served.id t k o ]

  at' : (t : Token) (k : StayStamp) → Issued (a ∷ S) t k → Here v (a ∷ S) t.fid.fileset k.moves
  at' t k i =
      here_on v a S t.fid.fileset k.moves still
      (elim (issued t k i) [ inl n ↦ subst (λ (f : Fid). Here v S f.fileset k.moves) (sym (n.may.file t n.in_it)) n.may.home | inr o ↦ served.at t k o ])

  issued_epoch' : (t : Token) (k : StayStamp) → Issued (a ∷ S) t k → t.id.epoch ≤ epoch (a ∷ S)
  issued_epoch' t k i = elim (issued t k i) [ inl n ↦ (let e = n.may.now t n.in_it in omega (arith, same)) | inr o ↦ (let e = served.issued_epoch t k o in omega (arith, same)) ]

  reclaimed_by : (t : Token) (k : StayStamp) → New v S a t k → HasReclaimed S t.host
  reclaimed_by t k n = subst (HasReclaimed S) (sym (n.may.host_is t n.in_it)) (n.may.over n.to n.may.live)

  issued_now' : (t : Token) (k : StayStamp) → Issued (a ∷ S) t k → t.id.epoch ≡ epoch (a ∷ S) → HasReclaimed (a ∷ S) t.host
  issued_now' t k i e = elim (issued t k i) [ inl n ↦ inr (reclaimed_by t k n, quiet) | inr o ↦ inr (served.issued_now t k o (e ∙ same), quiet) ]

  owed_issued' : (t : Token) → Owed v (a ∷ S) t → (k : StayStamp) × Issued (a ∷ S) t k
  owed_issued' t (inl i) = (i.0, inl i.1)
  owed_issued' t (inr o) = let i = served.owed_issued t o.0 in (i.0, inr i.1)

  sent_stays : (h k : HostId) (d n : ℕ) (w : Bring) → BringsTokens a h d n w → GoesAway S a k → ⊥
  sent_stays h k d n w (inl p) (inl q) = let e = p.1 in let r = q.2 in cc
  sent_stays h k d n w (inr p) (inl q) = let e = p.1 in let r = q.2 in cc
  sent_stays h k d n w (inl p) (inr q) = let e = p.1 in let r = q.0.1 in cc
  sent_stays h k d n w (inr p) (inr q) = let e = p.1 in let r = q.0.1 in cc

  still_live : (h : HostId) → IsLive S h → (GoesAway S a h → ⊥) → IsLive (a ∷ S) h
  still_live h l stays = (inr l.0, λ w. elim w [ inl g ↦ stays g | inr o ↦ l.1 o ])

  owed_live' : (t : Token) → Owed v (a ∷ S) t → IsLive (a ∷ S) t.host
  owed_live' t (inl i) =
      elim (issues t i.0 i.1) [
        | inl n ↦ still_live t.host (subst (IsLive S) (sym (n.may.host_is t n.in_it)) n.may.live) (sent_stays n.to t.host n.of i.0.moves n.with n.brings)
        | inr o ↦ still_live t.host (served.owed_live t (granted_owed t o.1)) (sent_stays i.1.0 t.host i.1.1 i.0.moves i.1.2 i.1.3)
      ]
  owed_live' t (inr o) = still_live t.host (served.owed_live t o.0) o.1.here

  owed_granted' : (t : Token) → Owed v (a ∷ S) t → HasReclaimed (a ∷ S) t.host → Granted v (a ∷ S) t
  owed_granted' t (inl i) r = inl (inl i)
  owed_granted' t (inr o) (inl (inl (ts, e))) = inl (inr (ts, e, o.1.admitted ts e))
  owed_granted' t (inr o) (inl (inr enlists)) = absurd (enlists.1 (served.owed_live t o.0).0)
  owed_granted' t (inr o) (inr r) = inr (served.owed_granted t o.0 r.0, quiet, o.1.unnamed r.0, o.1.here)

  granted_reclaimed' : (t : Token) → Granted v (a ∷ S) t → HasReclaimed (a ∷ S) t.host
  granted_reclaimed' t (inl (inl i)) = elim (issues t i.0 i.1) [ inl n ↦ inr (reclaimed_by t i.0 n, quiet) | inr o ↦ inr (served.granted_reclaimed t o.1, quiet) ]
  granted_reclaimed' t (inl (inr (ts, e, m))) = inl (inl (ts, e))
  granted_reclaimed' t (inr (g, q, _, _)) = inr (served.granted_reclaimed t g, q)

  revokes' : (h : HostId) (d n : ℕ) (r : RevokeOf) (i : TokenId) → SentTo (a ∷ S) h d n (Revoke r) → In i r.ids → IssuedBelow (a ∷ S) h r.fid d r.stamp i
  revokes' h d n r i (inl e) m =
      let t = may.revokes h d n r i e m in
      let y = served.owed_issued t.0 (granted_owed t.0 t.1) in
      record { token = t.0; mark = y.0; issued = inr y.1; same = t.2; host = t.3; file = t.4; below = λ now. may.stamps h d n y.0.stamp r e (subst (λ g. HasUsedStamp S g y.0.stamp) t.4 (served.told t.0 y.0 y.1 (now ∙ may.epochs h d n (Revoke r) e))) }
  revokes' h d n r i (inr o) m =
      let x = served.revokes h d n r i o m in
      record { token = x.token; mark = x.mark; issued = inr x.issued; same = x.same; host = x.host; file = x.file; below = x.below }

  grants' : (h : HostId) (d n : ℕ) (w : GrantOf) (t : Token) → SentTo (a ∷ S) h d n (Grant w) → In t w.bring.tokens → Brought (a ∷ S) h d w.bring n t
  grants' h d n w t (inl e) m =
      let o = (may.grants h d n w e).0 in
      record { issued = inl (h, d, w.bring, inl (w, e, refl), m, refl); host = o.host_is t m; file = o.file t m; epoch_is = o.now t m ∙ sym (may.epochs h d n (Grant w) e) }
  grants' h d n w t (inr o) m = let i = served.grants h d n w t o m in record { issued = inr i.issued; host = i.host; file = i.file; epoch_is = i.epoch_is }

  dones' : (h : HostId) (d n : ℕ) (w : DoneOf) (t : Token) → SentTo (a ∷ S) h d n (Done w) → In t w.bring.tokens → Brought (a ∷ S) h d w.bring n t
  dones' h d n w t (inl e) m =
      elim (may.dones h d n w e) [
        | inl none ↦ absurd (none_in t w.bring.tokens none m)
        | inr (inl o) ↦ record { issued = inl (h, d, w.bring, inr (w, e, refl), m, refl); host = o.0.host_is t m; file = o.0.file t m; epoch_is = o.0.now t m ∙ sym (may.epochs h d n (Done w) e) }
        | inr (inr r) ↦ (let i = served.dones h d n w t r.0 m in record { issued = inl (h, d, w.bring, inr (w, e, refl), m, refl); host = i.host; file = i.file; epoch_is = i.epoch_is })
      ]
  dones' h d n w t (inr o) m = let i = served.dones h d n w t o m in record { issued = inr i.issued; host = i.host; file = i.file; epoch_is = i.epoch_is }

  gones' : (h : HostId) (d n : ℕ) (g : AppliedGive) → SentTo (a ∷ S) h d n (Gone g) → IsApplied v (a ∷ S) h g
  gones' h d n g (inl e) = inr (may.gones h d n g e).1
  gones' h d n g (inr o) = inr (served.gones h d n g o)

  reclaimed' : (h : HostId) (d n : ℕ) (r : ReclaimedOf) (g : AppliedGive) → SentTo (a ∷ S) h d n (Reclaimed r) → In g r.applied → IsApplied v (a ∷ S) h g
  reclaimed' h d n r g (inl e) m = inr (may.reclaimed h d n r g e m)
  reclaimed' h d n r g (inr e) m = inr (served.reclaimed h d n r g e m)

  sent_epoch' : (h : HostId) (d n : ℕ) (b : Body) → SentTo (a ∷ S) h d n b → d ≤ epoch (a ∷ S)
  sent_epoch' h d n b (inl e) = (let p = may.epochs h d n b e in omega (arith, same))
  sent_epoch' h d n b (inr o) = (let p = served.sent_epoch h d n b o in omega (arith, same))

  apart' : (t u : Token) → Owed v (a ∷ S) t → Owed v (a ∷ S) u → conflict t u ≡ true → ⊥
  apart' t u i j c = go (owes t i) (owes u j)
    where
      go : ((x : StayStamp) × New v S a t x) ⊎ Owed v S t → ((x : StayStamp) × New v S a u x) ⊎ Owed v S u → ⊥
      go (inl n) (inl m) = let one = brings_one a n.1.to m.1.to n.1.of m.1.of n.0.moves m.0.moves n.1.with m.1.with n.1.brings m.1.brings in of_two t u c (n.1.may.host_is t n.1.in_it ∙ (one.0 ∙ sym (m.1.may.host_is u m.1.in_it)))
      go (inl n) (inr o) = n.1.may.free t u n.1.in_it (inl (served.owed_granted u o (n.1.may.over u.host (served.owed_live u o)))) c
      go (inr o) (inl m) = m.1.may.free u t m.1.in_it (inl (served.owed_granted t o (m.1.may.over t.host (served.owed_live t o)))) (conflict_both u t ∙ c)
      go (inr o) (inr p) = served.apart t u o p c

  -- no grace period begins but with an epoch
  grace_on : NoGrace S → NoGrace (a ∷ S)
  grace_on over k (inl hello, live) = inl (inr (inl hello, hello.1))
  grace_on over k (inr l, live) = inr (over k (l, λ w. live (inr w)), quiet)

  keeps_brings : (ts : List Token) (t : Token) (k : StayStamp) → a ≡ Reserves ts → Issues a t k → ⊥
  keeps_brings ts t k e (h, d, w, inl (g, q, b), m, _) = cc
  keeps_brings ts t k e (h, d, w, inr (g, q, b), m, _) = cc

  reserved' : (r : Token) → Reserved (a ∷ S) r → NoGrace (a ∷ S) × ((t : Token) → Owed v (a ∷ S) t → conflict t r ≡ true → ⊥)
  reserved' r (inl (ts, e, m)) =
      let over = (may.reserves ts r r e m).0 in
      (grace_on over, λ t o x. elim o [ inl i ↦ keeps_brings ts t i.0 e i.1 | inr p ↦ (may.reserves ts r t e m).1 (served.owed_granted t p.0 (over t.host (served.owed_live t p.0))) (conflict_both r t ∙ x) ])
  reserved' r (inr (k, _)) =
      let old = served.reserved r k in
      (grace_on old.0, λ t o x. elim (owes t o) [ inl n ↦ n.1.may.free t r n.1.in_it (inr k) x | inr p ↦ old.1 t p x ])

  pub served_act : Served v (a ∷ S)
  served_act = record {
    put = put_on a S still served.put;
    unique = unique';
    told = told';
    id = id';
    at = at';
    issued_epoch = issued_epoch';
    issued_now = issued_now';
    owed_issued = owed_issued';
    owed_live = owed_live';
    owed_granted = owed_granted';
    granted_reclaimed = granted_reclaimed';
    revokes = revokes';
    grants = grants';
    dones = dones';
    gones = gones';
    reclaimed = reclaimed';
    sent_epoch = sent_epoch';
    apart = apart';
    reserved = reserved';
  }

module _ (h : HostId) (v : ServerId) (A : List Step) (S : List Doing) (a : Doing) (served : Served v S) (may : ServerTokens v S a) (quiet : IsNewEpoch a → ⊥) (still : MovesOne a → ⊥) (same : epoch (a ∷ S) ≡ epoch S) (granted_owed : (t : Token) → Granted v S t → Owed v S t) (alone : Alone A) (link : Link h v A S) (came : (d n : ℕ) (b : Body) → a ≡ Took h d n b → Said A v d n b) where
  took_made : (fs : FilesetId) (g : Give) → TakesOf v S a h fs (GiveBack g) → Made A g
  took_made fs g e = (alone.said_made g v (epoch S) e.0 (came (epoch S) e.0 (GiveBack g) e.2.0)).0

  now_made : (fs : FilesetId) (g : Give) → TookOf v S h fs (GiveBack g) → Made A g
  now_made fs g e = let x = link.took_of fs (GiveBack g) e in (alone.said_made g v (epoch S) x.0 x.1).0

  now_returned : (fs : FilesetId) (n : Named) (i : TokenId) → TookOf v S h fs (Returned n) → In i n.ids → HasReturnedToken A i
  now_returned fs n i e m = let x = link.took_of fs (Returned n) e in said_returned A v (epoch S) x.0 n i x.1 m

  -- what its host has given up has left it
  given_up_left : (i : TokenId) → GivenUp v S h i → HasLeftHost A i
  given_up_left i given =
      elim (given_up v S h i given) [
        | inl l ↦ made_left A l.0 i (now_made l.0.fid.fileset l.0 l.1) l.2
        | inr l ↦ returned_left A i (now_returned l.0.fid.fileset l.0 i l.1 l.2)
      ]

  -- a host's claim that the doing lets count
  claiming : (ts : List Token) (m : MayAdmit v S h ts) → Claiming v S h A m.claim
  claiming ts m = record { epoch_is = epoch S; moves = m.moves; said = link.took m.moves (Reclaim m.claim) m.took; now = refl; first = m.first }

  -- the same, from what is so after the doing
  claiming_before : (c : ReclaimOf) → Claiming v (a ∷ S) h A c → Claiming v S h A c
  claiming_before c k = record { epoch_is = k.epoch_is; moves = k.moves; said = k.said; now = k.now ∙ same; first = λ r. k.first (inr (r, quiet)) }

  -- what a claim says of a fileset that was made here is of its stay here
  named_here : (c : ReclaimOf) (o : Outstanding) → Claiming v S h A c → In o c.numbers → home o.fileset ≡ v → Here v S o.fileset o.moves
  named_here c o k m at =
      let moves = alone.claim_moves v k.epoch_is k.moves c o k.said m in
      here_was v S o.fileset o.moves served.put (λ i. record { server = at i; moves = sym moves i })

  claims_here : (c : ReclaimOf) (t : Token) (x : StayStamp) → Claiming v S h A c → Issued S t x → In t c.tokens → ClaimsHere v S c t
  claims_here c t x k i m =
      let o = alone.claim_numbers v k.epoch_is k.moves c t k.said m in
      (o.0, o.1, o.2, named_here c o.0 k o.1 (ap home o.2 ∙ made_at v S t.fid.fileset x.moves served.put (served.at t x i)))

  -- what a counting claim calls outstanding was taken in this epoch
  named_given : (ts : List Token) (p : MayAdmit v S h ts) (g : Give) (i : TokenId) → Made A g → In i g.ids → i.server ≡ v → NamesGive p.claim.numbers g → GivenUp v S h i
  named_given ts p g i k n at o =
      let one = alone.from_one g k in
      let same_give = o.3 in
      let w = p.waited o.0 o.1 (omega arith) (named_here p.claim o.0 (claiming ts p) o.1 (ap home o.2 ∙ link.made_id g i k n at)) in
      let is : w.0 ≡ g = alone.numbers w.0 g (now_made o.0.fileset w.0 w.1) k (w.2 ∙ o.2) (w.3 ∙ o.3) in
      gives_up v S h g i (subst (λ (y : Give). TookOf v S h g.fid.fileset (GiveBack y)) is (subst (λ (f : FilesetId). TookOf v S h f (GiveBack w.0)) o.2 w.1)) n

  -- an issued token that a claim names, and that the host hasn't given up, is granted by it
  admitted_is : (ts : List Token) (p : MayAdmit v S h ts) (t : Token) (x : StayStamp) → Issued S t x → t.host ≡ h → In t p.claim.tokens → (GivenUp v S h t.id → ⊥) → In t ts
  admitted_is ts p t x i mine m out =
      let w = p.whole t m (claims_here p.claim t x (claiming ts p) i m) out free in
      let k = claiming ts p in
      let ever = alone.claim_ever v k.epoch_is k.moves p.claim w.0 k.said (p.sound w.0 w.1).0 in
      let j = link.ever w.0 ever.1 ever.0 in
      subst (λ (y : Token). In y ts) (served.unique w.0 t j.0 x j.1 i w.2).0 w.1
    where
      free : IsGrantedId v S t.id → ⊥
      free (u, g, e) =
          let y = served.owed_issued u (granted_owed u g) in
          let one = (served.unique u t y.0 x y.1 i e).0 in
          p.first (subst (HasReclaimed S) (ap (λ (z : Token). z.host) one ∙ mine) (served.granted_reclaimed u g))

  -- what hasn't left its host stays owed
  stays_owed : (t : Token) → t.host ≡ h → (HasLeftHost A t.id → ⊥) → (HasGoneAway (a ∷ S) h → ⊥) → ((ts : List Token) → a ≡ Admits h ts → In t ts) → Stays v S a t
  stays_owed t mine stays live admitted = record {
    unnamed = λ r n. names (subst (λ k. GivesUp v S a k t.id) mine n);
    here = λ g. live (inl (subst (GoesAway S a) mine g));
    admitted = λ ts e. admitted ts (e ∙ ap (λ k. Admits k ts) mine);
  }
    where
      names : GivesUp v S a h t.id → ⊥
      names (inl (n, e, m)) = stays (returned_left A t.id (said_returned A v (epoch S) e.0 n t.id (came (epoch S) e.0 (Returned n) e.2.0) m))
      names (inr (g, e, m)) = stays (made_left A g t.id (took_made g.fid.fileset g e) m)

  asked' : (t : Token) (k : StayStamp) → Issued (a ∷ S) t k → t.host ≡ h → t.id.epoch ≤ epoch_at A v
  asked' t k i mine =
      elim (issued v S a served may quiet still same granted_owed t k i) [
        | inl n ↦ (let to : TookNow S h k.moves n.ask = subst (λ j. TookNow S j k.moves n.ask) (sym (n.may.host_is t n.in_it) ∙ mine) n.asked in let lo = alone.said_epoch v (epoch S) k.moves n.ask (link.took k.moves n.ask to) in let e = n.may.now t n.in_it in omega arith)
        | inr o ↦ link.asked t k o mine
      ]

  took' : (n : ℕ) (b : Body) → TookNow (a ∷ S) h n b → Said A v (epoch (a ∷ S)) n b
  took' n b (inl e) = subst (λ d. Said A v d n b) (sym same) (came (epoch S) n b e.0)
  took' n b (inr o) = subst (λ d. Said A v d n b) (sym same) (link.took n b o.0)

  took_of' : (fs : FilesetId) (b : Body) → TookOf v (a ∷ S) h fs b → (n : ℕ) × Said A v (epoch (a ∷ S)) n b
  took_of' fs b (inl e) = (e.0, subst (λ d. Said A v d e.0 b) (sym same) (came (epoch S) e.0 b e.2.0))
  took_of' fs b (inr o) = let x = link.took_of fs b o.0 in (x.0, subst (λ d. Said A v d x.0 b) (sym same) x.1)

  took_ever' : (fs : FilesetId) (b : Body) → TookEver v (a ∷ S) h fs b → (d : ℕ) × (n : ℕ) × Said A v d n b
  took_ever' fs b (inl e) = (epoch S, e.0, came (epoch S) e.0 b e.2.0)
  took_ever' fs b (inr o) = link.took_ever fs b o

  in_flight' : (t : Token) (k : StayStamp) → Issued (a ∷ S) t k → t.host ≡ h → t.id.epoch ≡ epoch_at A v → AboveFloor A t.fid k.stamp → (HasGoneAway (a ∷ S) h → ⊥) → Owed v (a ∷ S) t
  in_flight' t k (inl i) mine e above live = inl (k, i)
  in_flight' t k (inr o) mine e above live = inr (link.in_flight t k o mine e above (λ w. live (inr w)), stays_owed t mine stays live admitted)
    where
      stays : HasLeftHost A t.id → ⊥
      stays l =
          let s = link.left t.id (served.id t k o) l in
          let one = served.unique s.token t s.mark k s.issued o s.same in
          s.passed (ap (λ (u : Token). u.id.epoch) one.0 ∙ e) (subst (λ (q : Token × StayStamp). AboveFloor A q.0.fid q.1.stamp) (λ j. (sym one.0 j, sym one.1 j)) above)

      admitted : (ts : List Token) → a ≡ Admits h ts → In t ts
      admitted ts q =
          let m = may.admits h ts q in
          let lo = alone.said_epoch v (epoch S) m.moves (Reclaim m.claim) (link.took m.moves (Reclaim m.claim) m.took) in
          let hi = served.issued_epoch t k o in
          absurd (m.first (subst (HasReclaimed S) mine (served.issued_now t k o (omega arith))))

  held' : (t : Token) → t.id.server ≡ v → Owns A t → Good v (a ∷ S) h A A t
  held' t at k =
      let x = link.held t at k in
      record { mark = x.mark; issued = inr x.issued; host = x.host; passed = x.passed; stays = x.stays; owed = λ live. inr (x.owed (λ w. live (inr w)), stays_owed t x.host x.stays live (admitted x)) }
    where
      admitted : Good v S h A A t → (ts : List Token) → a ≡ Admits h ts → In t ts
      admitted x ts q =
          let m = may.admits h ts q in
          admitted_is ts m t x.mark x.issued x.host (link.claim_held m.claim t (claiming ts m) at k) (λ l. x.stays (given_up_left t.id l))

  left' : (i : TokenId) → i.server ≡ v → HasLeftHost A i → Spent v (a ∷ S) h A i
  left' i at l = let x = link.left i at l in record { token = x.token; mark = x.mark; issued = inr x.issued; same = x.same; host = x.host; passed = x.passed }

  given' : (g : Give) (i : TokenId) → i.server ≡ v → Made A g → In i g.ids → (IsApplied v (a ∷ S) h (number_of g) → ⊥) → (HasGoneAway (a ∷ S) h → ⊥) → OwedId v (a ∷ S) h i
  given' g i at m n not live =
      let x = link.given g i at m n (λ p. not (inr p)) (λ w. live (inr w)) in
      record { token = x.token; owed = inr (x.owed, record { unnamed = λ r k. names x (subst (λ j. GivesUp v S a j x.token.id) x.host k); here = λ w. live (inl (subst (GoesAway S a) x.host w)); admitted = λ ts e. admitted x ts (e ∙ ap (λ k. Admits k ts) x.host) }); same = x.same; host = x.host }
    where
      names : (x : OwedId v S h i) → GivesUp v S a h x.token.id → ⊥
      names x (inl (f, e, k)) = not (inr (link.returned i g at (said_returned A v (epoch S) e.0 f i (came (epoch S) e.0 (Returned f) e.2.0) (subst (λ j. In j f.ids) x.same k)) m n))
      names x (inr (k, took, q)) =
          let one : g ≡ k = link.made_once g k i at m (took_made k.fid.fileset k took) n (subst (λ j. In j k.ids) x.same q) in
          let files = ap (λ (y : Give). y.fid.fileset) (sym one) in
          not (inl (k, subst (λ (f : FilesetId). TakesOf v S a h f (GiveBack k)) files took, files, (let e : g.number ≡ k.number = ap (λ (y : Give). y.number) one in omega arith)))

      by_either : (x : OwedId v S h i) → TookGiven v S h x.token.id → IsApplied v S h (number_of g)
      by_either x (inl l) = subst (λ (y : Give). IsApplied v S h (number_of y)) (link.made_once l.0 g i at (now_made l.0.fid.fileset l.0 l.1) m (subst (λ y. In y l.0.ids) x.same l.2) n) (took_applied v S h l.0 l.1)
      by_either x (inr l) = link.returned i g at (now_returned l.0.fid.fileset l.0 i l.1 (subst (λ y. In y l.0.ids) x.same l.2)) m n

      given_applied : (x : OwedId v S h i) → GivenUp v S h x.token.id → IsApplied v S h (number_of g)
      given_applied x l = by_either x (given_up v S h x.token.id l)

      admitted : (x : OwedId v S h i) (ts : List Token) → a ≡ Admits h ts → In x.token ts
      admitted x ts q =
          let p = may.admits h ts q in
          let c = claiming ts p in
          let u = link.claim_given p.claim g i c at m n (λ r. not (inr r)) in
          let ever = alone.claim_ever v c.epoch_is c.moves p.claim u.0 c.said u.1 in
          let j = link.ever u.0 ever.1 ever.0 in
          let k = served.owed_issued x.token x.owed in
          let one : u.0 ≡ x.token = (served.unique u.0 x.token j.0 k.0 j.1 k.1 (u.2 ∙ sym x.same)).0 in
          admitted_is ts p x.token k.0 k.1 x.host (subst (λ (y : Token). In y p.claim.tokens) one u.1) (λ l. not (inr (given_applied x l)))

  applied_now : (g k : Give) → Made A g → TakesOf v S a h g.fid.fileset (GiveBack k) → k.fid.fileset ≡ g.fid.fileset → g.number ≤ k.number → IsApplied v S h (number_of g) ⊎ (k ≡ g)
  applied_now g k m e f le =
      elim (cases_lt g.number k.number) [
        | inl lt ↦ inl (link.known (number_of g) (made_at v S g.fid.fileset e.0 served.put e.1) (alone.said_first k g v (epoch S) e.0 (came (epoch S) e.0 (GiveBack k) e.2.0) m (sym f) lt))
        | inr ge ↦ inr (alone.numbers k g (took_made g.fid.fileset k e) m f (omega arith))
      ]

  applied_made' : (n : AppliedGive) → IsApplied v (a ∷ S) h n → (g : Give) × Made A g × (g.fid.fileset ≡ n.fileset) × (n.number ≤ g.number)
  applied_made' n (inl (g, e, f, le)) = (g, took_made n.fileset g e, f, le)
  applied_made' n (inr o) = link.applied_made n o

  applied_taken' : (g : Give) → Made A g → IsApplied v (a ∷ S) h (number_of g) → TookEver v (a ∷ S) h g.fid.fileset (GiveBack g)
  applied_taken' g m (inl (k, e, f, le)) =
      elim (applied_now g k m e f le) [
        | inl p ↦ inr (link.applied_taken g m p)
        | inr one ↦ inl (subst (λ j. TakesOf v S a h g.fid.fileset (GiveBack j)) one e)
      ]
  applied_taken' g m (inr o) = inr (link.applied_taken g m o)

  claim_host : (c : ReclaimOf) (t : Token) → Claiming v S h A c → In t c.tokens → t.host ≡ h
  claim_host c t k m = let e = alone.claim_ever v k.epoch_is k.moves c t k.said m in (link.ever t e.1 e.0).2

  claim_owed' : (c : ReclaimOf) (t : Token) → Claiming v (a ∷ S) h A c → (HasGoneAway (a ∷ S) h → ⊥) → In t c.tokens → Owed v (a ∷ S) t ⊎ ((g : Give) × Made A g × In t.id g.ids × NamesGive c.numbers g)
  claim_owed' c t k live m =
      let b = claiming_before c k in
      let mine = claim_host c t b m in
      elim (link.claim_owed c t b (λ w. live (inr w)) m) [
        | inl o ↦ inl (inr (o, record { unnamed = λ r n. b.first (subst (HasReclaimed S) mine r); here = λ w. live (inl (subst (GoesAway S a) mine w)); admitted = λ us e. absurd (k.first (inl (inl (us, e ∙ ap (λ j. Admits j us) mine)))) }))
        | inr g ↦ inr g
      ]

  granted_owed' : (t : Token) → t.host ≡ h → Granted v (a ∷ S) t → Owed v (a ∷ S) t
  granted_owed' t mine (inl (inl i)) = inl i
  granted_owed' t mine (inl (inr (ts, e, m))) = go (link.claim_owed p.claim t c p.live.1 (p.sound t m).0)
    where
      q : a ≡ Admits h ts
      q = e ∙ ap (λ k. Admits k ts) mine

      p : MayAdmit v S h ts
      p = may.admits h ts q

      c : Claiming v S h A p.claim
      c = claiming ts p

      go : Owed v S t ⊎ ((g : Give) × Made A g × In t.id g.ids × NamesGive p.claim.numbers g) → Owed v (a ∷ S) t
      go (inl o) = inr (o, record { unnamed = λ r n. absurd (p.first (subst (HasReclaimed S) mine r)); here = λ w. elim w [ inl x ↦ (let y = x.2 in let z = e in cc) | inr x ↦ (let y = x.0.1 in let z = e in cc) ]; admitted = λ us f. subst (In t) (let r = e in cc) m })
      go (inr (g, k, n, o)) = absurd ((p.sound t m).3 (named_given ts p g t.id k n (alone.claim_ever v c.epoch_is c.moves p.claim t c.said (p.sound t m).0).1 o))
  granted_owed' t mine (inr (g, q, unnamed, here)) = inr (link.granted_owed t mine g, record { unnamed = λ _ n. unnamed n; here = here; admitted = λ ts e. absurd ((may.admits t.host ts e).first (served.granted_reclaimed t g)) })

  taken' : (g : Give) (t : Token) → Made A g → In t.id g.ids → t.host ≡ h → IsApplied v (a ∷ S) h (number_of g) → Granted v (a ∷ S) t → ⊥
  taken' g t m n mine r k = go r k
    where
      before : IsApplied v (a ∷ S) h (number_of g) → IsApplied v S h (number_of g) ⊎ TakesOf v S a h g.fid.fileset (GiveBack g)
      before (inl (j, e, f, le)) = elim (applied_now g j m e f le) [ inl p ↦ inl p | inr one ↦ inr (subst (λ y. TakesOf v S a h g.fid.fileset (GiveBack y)) one e) ]
      before (inr o) = inl o

      -- no new token has the number of one that has left
      fresh : (x : StayStamp) → New v S a t x → ⊥
      fresh x i =
          let s = link.left t.id (i.may.id t i.in_it) (made_left A g t.id m n) in
          absurd (let lt : s.token.id.seq < t.id.seq = i.may.new t s.token s.mark i.in_it s.issued (ap (λ (j : TokenId). j.epoch) s.same ∙ i.may.now t i.in_it) in let one : s.token.id.seq ≡ t.id.seq = ap (λ (j : TokenId). j.seq) s.same in omega arith)

      took_brings : TakesOf v S a h g.fid.fileset (GiveBack g) → (x : StayStamp) → Issues a t x → ⊥
      took_brings e x (j, d, w, inl p, _, _) = (let q = e.2.0 in let z = p.1 in cc)
      took_brings e x (j, d, w, inr p, _, _) = (let q = e.2.0 in let z = p.1 in cc)

      claimed : (ts : List Token) → a ≡ Admits h ts → In t ts → IsApplied v S h (number_of g) → ⊥
      claimed ts q i r =
          let w = may.admits h ts q in
          let c = claiming ts w in
          elim (link.claim_spent w.claim g t c (w.sound t i).0 m n r) [
            | inl o ↦ (w.sound t i).3 (named_given ts w g t.id m n (alone.claim_ever v c.epoch_is c.moves w.claim t c.said (w.sound t i).0).1 o)
            | inr o ↦ (w.sound t i).3 (gives_up v S h g t.id o n)
          ]

      go : IsApplied v (a ∷ S) h (number_of g) → Granted v (a ∷ S) t → ⊥
      go p (inl (inl i)) =
          elim (issues v S a served may quiet still same granted_owed t i.0 i.1) [
            | inl f ↦ fresh i.0 f
            | inr o ↦ elim (before p) [ inl q ↦ link.taken g t m n mine q o.1 | inr e ↦ took_brings e i.0 i.1 ]
          ]
      go p (inl (inr (ts, e, i))) = elim (before p) [ inl q ↦ claimed ts (e ∙ ap (λ j. Admits j ts) mine) i q | inr q ↦ absurd (let y = q.2.0 in cc) ]
      go p (inr (o, q, unnamed, here)) = elim (before p) [ inl f ↦ link.taken g t m n mine f o | inr e ↦ unnamed (inr (g, subst (λ j. TakesOf v S a j g.fid.fileset (GiveBack g)) (sym mine) e, n)) ]

  spent_before : (c : ReclaimOf) (g : Give) (t : Token) → Claiming v (a ∷ S) h A c → In t c.tokens → Made A g → In t.id g.ids → IsApplied v S h (number_of g) → NamesGive c.numbers g ⊎ TookOf v (a ∷ S) h g.fid.fileset (GiveBack g)
  spent_before c g t k i m n p = elim (link.claim_spent c g t (claiming_before c k) i m n p) [ inl o ↦ inl o | inr o ↦ inr (inr (o, quiet)) ]

  claim_spent' : (c : ReclaimOf) (g : Give) (t : Token) → Claiming v (a ∷ S) h A c → In t c.tokens → Made A g → In t.id g.ids → IsApplied v (a ∷ S) h (number_of g) → NamesGive c.numbers g ⊎ TookOf v (a ∷ S) h g.fid.fileset (GiveBack g)
  claim_spent' c g t k i m n (inl (j, e, f, le)) = elim (applied_now g j m e f le) [ inl p ↦ spent_before c g t k i m n p | inr one ↦ inr (inl (subst (λ y. TakesOf v S a h g.fid.fileset (GiveBack y)) one e)) ]
  claim_spent' c g t k i m n (inr p) = spent_before c g t k i m n p

  left_out' : (d n : ℕ) (r : ReclaimedOf) (i : TokenId) → SentTo (a ∷ S) h d n (Reclaimed r) → In i r.left_out → HasLeftHost A i
  left_out' d n r i (inl e) m = given_up_left i (may.left_out h d n r i e m)
  left_out' d n r i (inr o) m = link.left_out d n r i o m

  away' : HasGoneAway (a ∷ S) h → HasStopped A ⊎ HasSaid A v Bye
  away' (inl (inl (d, n, e))) = inl (v, d, n, came d n Down e)
  away' (inl (inr e)) = inr (epoch S, e.0.0, came (epoch S) e.0.0 Bye e.0.1)
  away' (inr o) = link.away o

  pub link_act : Link h v A (a ∷ S)
  link_act = record {
    behind = (let le = link.behind in omega (arith, same));
    asked = asked';
    took = took';
    took_of = took_of';
    took_ever = took_ever';
    known = λ n at k. inr (link.known n at k);
    in_flight = in_flight';
    held = held';
    ever = λ t at e. let x = link.ever t at e in (x.0, inr x.1, x.2);
    left = left';
    made_id = link.made_id;
    given = given';
    returned = λ i g at r m n. inr (link.returned i g at r m n);
    made_once = link.made_once;
    applied_made = applied_made';
    applied_taken = applied_taken';
    taken = taken';
    claim_spent = claim_spent';
    claim_held = λ c t k. link.claim_held c t (claiming_before c k);
    claim_given = λ c g i k at m n not. link.claim_given c g i (claiming_before c k) at m n (λ p. not (inr p));
    claim_owed = claim_owed';
    granted_owed = granted_owed';
    left_out = left_out';
    away = away';
  }
