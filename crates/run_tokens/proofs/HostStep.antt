-- A step of the host keeps what it has by itself, and what it has with each server.
use Rattle.message_types.specs.declared.message.Body.TheVariants.{Bye}
use Rattle.run_rules.specs.Doings.{Doing, Granted, HasGoneAway, HasReclaimed, IsApplied, Issued, SentTo, StayStamp}
use Rattle.run_rules.specs.Doings.{TookOf, epoch}
use Rattle.run_rules.specs.HostTokens.{HostTokens, IsInGive}
use Rattle.run_rules.specs.Messages.{About, Asking, Changing, ComesIn, HasSaid, HasStopped, RaisesEpoch, Renews, Said}
use Rattle.run_rules.specs.Messages.{Sends, epoch_at, home, stay_of}
use Rattle.run_rules.specs.Past.{In}
use Rattle.run_rules.specs.Tokens.{AboveFloor, AnswersRequest, AtHand, EverHeld, Held, IsKnown, IsKnownNumber, Made}
use Rattle.run_rules.specs.Tokens.{NamesGive, Owns, Uses, WaitsBehind, number_of}
use Rattle.run_tokens.specs.TokenLaws.{HasLeftHost, HasReturnedToken, TookEver}
use Rattle.std.proofs.Common.{◌≡◌, ℕ, ◌<◌, ◌≤◌, ◌⊎◌, List, ◌∷◌, inl, inr, sym, ◌∙◌, ap, subst, refl, arith}
use Rattle.std.proofs.lemmas.Bool.{cases_lt}
use Rattle.base_types.specs.declared.ids.HostId.{HostId}
use Rattle.base_types.specs.declared.ids.ServerId.{ServerId}
use Rattle.base_types.specs.declared.ids.FilesetId.{FilesetId}
use Rattle.base_types.specs.declared.ids.Fid.{Fid}
use Rattle.token_types.specs.declared.token.TokenId.{TokenId}
use Rattle.token_types.specs.declared.token.Token.{Token}
use Rattle.message_types.specs.declared.message.Body.{Body}
use Rattle.message_types.specs.declared.message.Body.TheVariants.{Grant, Done, Revoke, GiveBack, Gone, Reclaim, Reclaimed}
use Rattle.message_types.specs.declared.tokens.Revoke.{Revoke as RevokeOf}
use Rattle.message_types.specs.declared.telling.Bring.{Bring}
use Rattle.message_types.specs.declared.giving.Give.{Give}
use Rattle.message_types.specs.declared.giving.AppliedGive.{AppliedGive}
use Rattle.message_types.specs.declared.giving.Outstanding.{Outstanding}
use Rattle.message_types.specs.declared.giving.Reclaim.{Reclaim as ReclaimOf}
use Rattle.run_rules.specs.declared.step.Step.{Step}
use Rattle.run_tokens.proofs.Owed.{Owed}
use Rattle.run_tokens.proofs.Words.{returned_left, made_left, raised_cases, epoch_grows, made_at, applied_at}
use Rattle.run_tokens.proofs.Invariant.{Served, Alone, Link, Passed, Good, Spent, Brought, OwedId, IssuedBelow, Claiming}

pub alone_step : (A : List Step) (s : Step) → Alone A → HostTokens A s → Alone (s ∷ A)
alone_step A s alone may = record { said_made = made'; said_epoch = epoch'; said_first = first'; claim_ever = ever'; claim_numbers = numbers_of'; claim_moves = moves'; numbers = numbers'; from_one = one'; bye_asking = asking'; bye_changing = changing'; bye_held = held'; owns = owns'; holds = holds' }
  where
    made' : (g : Give) (v : ServerId) (e n : ℕ) → Said (s ∷ A) v e n (GiveBack g) → Made (s ∷ A) g × (stay_of (s ∷ A) g.fid.fileset ≡ record { server = v; moves = n })
    made' g v e n (inl p) = may.gives g v e n p
    made' g v e n (inr p) = let x = alone.said_made g v e n p in (inr x.0, x.1)

    epoch' : (v : ServerId) (e n : ℕ) (b : Body) → Said (s ∷ A) v e n b → e ≤ epoch_at (s ∷ A) v
    epoch' v e n b (inl p) = (let q = may.epochs v e n b p in omega arith)
    epoch' v e n b (inr p) = (let q = alone.said_epoch v e n b p in let up = epoch_grows A s v in omega arith)

    first' : (g k : Give) (v : ServerId) (e n : ℕ) → Said (s ∷ A) v e n (GiveBack g) → Made (s ∷ A) k → k.fid.fileset ≡ g.fid.fileset → k.number < g.number → IsKnown (s ∷ A) k
    first' g k v e n (inl p) m f lt = may.gives_first g k v e n p m f lt
    first' g k v e n (inr p) (inl m) f lt = absurd (let new : g.number < k.number = may.makes_new k g m (alone.said_made g v e n p).0 (sym f) in omega arith)
    first' g k v e n (inr p) (inr m) f lt = inr (alone.said_first g k v e n p m f lt)

    ever' : (v : ServerId) (e n : ℕ) (c : ReclaimOf) (t : Token) → Said (s ∷ A) v e n (Reclaim c) → In t c.tokens → EverHeld (s ∷ A) t × (t.id.server ≡ v)
    ever' v e n c t (inl p) m = let o = (may.claims v e n c p).only t m in (o.0, o.1.0)
    ever' v e n c t (inr p) m = let o = alone.claim_ever v e n c t p m in (inr o.0, o.1)

    numbers_of' : (v : ServerId) (e n : ℕ) (c : ReclaimOf) (t : Token) → Said (s ∷ A) v e n (Reclaim c) → In t c.tokens → (o : Outstanding) × In o c.numbers × (o.fileset ≡ t.fid.fileset)
    numbers_of' v e n c t (inl p) m = (may.claims v e n c p).numbers t m
    numbers_of' v e n c t (inr p) m = alone.claim_numbers v e n c t p m

    moves' : (v : ServerId) (e n : ℕ) (c : ReclaimOf) (o : Outstanding) → Said (s ∷ A) v e n (Reclaim c) → In o c.numbers → o.moves ≡ (stay_of (s ∷ A) o.fileset).moves
    moves' v e n c o (inl p) m = (may.claims v e n c p).moves o m
    moves' v e n c o (inr p) m = alone.claim_moves v e n c o p m

    numbers' : (g k : Give) → Made (s ∷ A) g → Made (s ∷ A) k → g.fid.fileset ≡ k.fid.fileset → g.number ≡ k.number → g ≡ k
    numbers' g k (inl a) (inl b) f e = may.makes_apart g k a b (λ i. record { fileset = f i; number = e i })
    numbers' g k (inl a) (inr b) f e = absurd (let lt : k.number < g.number = may.makes_new g k a b (sym f) in omega arith)
    numbers' g k (inr a) (inl b) f e = absurd (let lt : g.number < k.number = may.makes_new k g b a f in omega arith)
    numbers' g k (inr a) (inr b) f e = alone.numbers g k a b f e

    one' : (g : Give) → Made (s ∷ A) g → 0 < g.number
    one' g (inl m) = may.makes_from g m
    one' g (inr m) = alone.from_one g m

    asking' : (v : ServerId) (fs : FilesetId) (n : ℕ) → HasSaid (s ∷ A) v Bye → Asking (s ∷ A) fs n → ⊥
    asking' v fs n (d, m, inl e) a = may.bye_asking v d m fs n e a
    asking' v fs n (d, m, inr e) a = elim a.0 [ inl q ↦ (may.fetches q.0 q.1.0 q.1.1 q.1.2 q.1.3).1 v (d, m, e) | inr q ↦ alone.bye_asking v fs n (d, m, e) q ]

    changing' : (v w : ServerId) (fs : FilesetId) (n : ℕ) → HasSaid (s ∷ A) v Bye → Changing (s ∷ A) w fs n → ⊥
    changing' v w fs n (d, m, inl e) a = may.bye_changing v w d m fs n e a
    changing' v w fs n (d, m, inr e) a = elim a.0 [ inl q ↦ (may.changes q.0 q.1.0 q.1.1 q.1.2 q.1.3).1 v (d, m, e) | inr q ↦ alone.bye_changing v w fs n (d, m, e) q ]

    unasked : (v : ServerId) (w : Bring) → HasSaid A v Bye → AnswersRequest A s w → ⊥
    unasked v w e (inl q) = alone.bye_asking v w.fid.fileset w.number e q.3
    unasked v w e (inr q) = alone.bye_changing v (stay_of A w.fid.fileset).server q.0.fileset w.number e q.3

    held' : (t : Token) (v : ServerId) → HasSaid (s ∷ A) v Bye → Owns (s ∷ A) t → ⊥
    held' t v (d, m, inl e) k = may.bye_held v d m t e k
    held' t v (d, m, inr e) k = elim k.0 [ inl i ↦ (let w = may.takes t i in unasked v w.0 (d, m, e) w.1.0) | inr o ↦ alone.bye_held t v (d, m, e) o ]

    owns' : (t : Token) → Held (s ∷ A) t → Owns (s ∷ A) t
    owns' t k = (elim k.0 [ inl m ↦ inl m | inr o ↦ inr (alone.owns t o) ], λ l. k.1 (may.drops t k.0 l))

    holds' : (HasStopped (s ∷ A) → ⊥) → (t : Token) → Owns (s ∷ A) t → Held (s ∷ A) t
    holds' up t k = (
      elim k.0 [ inl m ↦ inl m | inr o ↦ inr (alone.holds (λ d. up (d.0, d.1, d.2, inr d.3)) t o) ],
      λ l. elim (may.drops_only t l) [ inl q ↦ k.1 q | inr q ↦ up (q.0, q.1, q.2, inl q.3) ],
    )

module _ (h : HostId) (A : List Step) (S : ServerId → List Doing) (s : Step) (served : (v : ServerId) → Served v (S v)) (alone : Alone A) (link : (v : ServerId) → Link h v A (S v)) (may : HostTokens A s) (came : (v : ServerId) (e n : ℕ) (b : Body) → ComesIn s v e n b → SentTo (S v) h e n b) where
  -- a token of the epoch after the step is of the epoch before it: none was issued in an epoch that the host hadn't reached
  still : (v : ServerId) (t : Token) (k : StayStamp) → Issued (S v) t k → t.host ≡ h → t.id.epoch ≡ epoch_at (s ∷ A) v → t.id.epoch ≡ epoch_at A v
  still v t k i mine e = (let le = (link v).asked t k i mine in let up = epoch_grows A s v in omega arith)

  -- the fileset of an issued token is where it was issued
  issued_at : (v : ServerId) (t : Token) (k : StayStamp) → Issued (S v) t k → home t.fid.fileset ≡ v
  issued_at v t k i = made_at v (S v) t.fid.fileset k.moves (served v).put ((served v).at t k i)

  -- floors begin anew only with an epoch that the token isn't of
  renewed : (v : ServerId) (t : Token) (k : StayStamp) → Issued (S v) t k → t.host ≡ h → t.id.epoch ≡ epoch_at (s ∷ A) v → Renews A s t.fid.fileset → ⊥
  renewed v t k i mine e (inl q) = (let same = still v t k i mine e in let up : epoch_at A v < epoch_at (s ∷ A) v = subst (RaisesEpoch A s) (issued_at v t k i) q in omega arith)
  renewed v t k i mine e (inr q) = (omega (arith, q))

  passed_on : (v : ServerId) (t : Token) (k : StayStamp) → Issued (S v) t k → t.host ≡ h → Passed v A t k → Passed v (s ∷ A) t k
  passed_on v t k i mine p e (inl q) = renewed v t k i mine e q.0
  passed_on v t k i mine p e (inr q) = p (still v t k i mine e) q.0

  used_there : (t : Token) (w : Bring) → Uses A s w → In t w.tokens → Brought (S (home w.fid.fileset)) h (epoch_at A (home w.fid.fileset)) w 0 t
  used_there t w u m =
      elim u.0 [
        | inl g ↦ subst (λ (b : Bring). Brought (S (home w.fid.fileset)) h (epoch_at A (home w.fid.fileset)) b 0 t) g.2 ((served (home w.fid.fileset)).grants h (epoch_at A (home w.fid.fileset)) 0 g.0 t (came (home w.fid.fileset) (epoch_at A (home w.fid.fileset)) 0 (Grant g.0) g.1) (subst (λ (b : Bring). In t b.tokens) (sym g.2) m))
        | inr g ↦ subst (λ (b : Bring). Brought (S (home w.fid.fileset)) h (epoch_at A (home w.fid.fileset)) b 0 t) g.2 ((served (home w.fid.fileset)).dones h (epoch_at A (home w.fid.fileset)) 0 g.0 t (came (home w.fid.fileset) (epoch_at A (home w.fid.fileset)) 0 (Done g.0) g.1) (subst (λ (b : Bring). In t b.tokens) (sym g.2) m))
      ]

  used_at : (t : Token) (w : Bring) → Uses A s w → In t w.tokens → Brought (S t.id.server) h (epoch_at A t.id.server) w 0 t
  used_at t w u m =
      let x = used_there t w u m in
      subst (λ v. Brought (S v) h (epoch_at A v) w 0 t) (sym ((served (home w.fid.fileset)).id t (record { moves = 0; stamp = w.stamp }) x.issued)) x

  used : (t : Token) (w : Bring) → Uses A s w → In t w.tokens → Good t.id.server (S t.id.server) h A (s ∷ A) t
  used t w u m = record { mark = record { moves = 0; stamp = w.stamp }; issued = at.issued; host = at.host; passed = passed; stays = stays; owed = λ live. (link t.id.server).in_flight t (record { moves = 0; stamp = w.stamp }) at.issued at.host at.epoch_is above live }
    where
      at : Brought (S t.id.server) h (epoch_at A t.id.server) w 0 t
      at = used_at t w u m

      above : AboveFloor A t.fid w.stamp
      above = subst (λ (f : Fid). AboveFloor A f w.stamp) (sym at.file) u.1

      passed : Passed t.id.server (s ∷ A) t (record { moves = 0; stamp = w.stamp })
      passed e (inl q) = renewed t.id.server t (record { moves = 0; stamp = w.stamp }) at.issued at.host e q.0
      passed e (inr a) = absurd (let lt : w.stamp < w.stamp = a.2 w u.0 u.1 u.2 (sym at.file) in omega arith)

      stays : HasLeftHost A t.id → ⊥
      stays l =
          let v = (link t.id.server).left t.id refl l in
          let one = (served t.id.server).unique v.token t v.mark (record { moves = 0; stamp = w.stamp }) v.issued at.issued v.same in
          v.passed (ap (λ (u : Token). u.id.epoch) one.0 ∙ at.epoch_is) (subst (λ (q : Token × StayStamp). AboveFloor A q.0.fid q.1.stamp) (λ j. (sym one.0 j, sym one.1 j)) above)

  had : (t : Token) → In t s.taken ⊎ Owns A t → Good t.id.server (S t.id.server) h A (s ∷ A) t
  had t (inl m) = let w = may.takes t m in used t w.0 w.1 w.2
  had t (inr k) =
      let x = (link t.id.server).held t refl k in
      record { mark = x.mark; issued = x.issued; host = x.host; passed = passed_on t.id.server t x.mark x.issued x.host x.passed; stays = x.stays; owed = x.owed }

  at_hand : (t : Token) → AtHand s A t → Good t.id.server (S t.id.server) h A (s ∷ A) t
  at_hand t (inl m) = had t (inl m)
  at_hand t (inr k) = had t (inr (alone.owns t k))

  -- the same at the server that issued it
  good_at : (v : ServerId) (t : Token) → t.id.server ≡ v → AtHand s A t → Good v (S v) h A (s ∷ A) t
  good_at v t at a = subst (λ w. Good w (S w) h A (s ∷ A) t) at (at_hand t a)

  spent : (v : ServerId) (t : Token) (i : TokenId) → AtHand s A t → t.id ≡ i → i.server ≡ v → Spent v (S v) h (s ∷ A) i
  spent v t i a e at =
      let x = good_at v t (ap (λ (j : TokenId). j.server) e ∙ at) a in
      record { token = t; mark = x.mark; issued = x.issued; same = e; host = x.host; passed = x.passed }

  revoked : (v : ServerId) (r : RevokeOf) (i : TokenId) → About A s r.fid.fileset (Revoke r) → In i r.ids → i.server ≡ v → Spent v (S v) h (s ∷ A) i
  revoked v r i c m at =
      let x = (served (home r.fid.fileset)).revokes h (epoch_at A (home r.fid.fileset)) 0 r i (came (home r.fid.fileset) (epoch_at A (home r.fid.fileset)) 0 (Revoke r) c) m in
      let here : Spent (home r.fid.fileset) (S (home r.fid.fileset)) h (s ∷ A) i = record { token = x.token; mark = x.mark; issued = x.issued; same = x.same; host = x.host; passed = passed x } in
      subst (λ w. Spent w (S w) h (s ∷ A) i) (sym ((served (home r.fid.fileset)).id x.token x.mark x.issued) ∙ (ap (λ (j : TokenId). j.server) x.same ∙ at)) here
    where
      passed : (x : IssuedBelow (S (home r.fid.fileset)) h r.fid (epoch_at A (home r.fid.fileset)) r.stamp i) → Passed (home r.fid.fileset) (s ∷ A) x.token x.mark
      passed x e (inl q) = renewed (home r.fid.fileset) x.token x.mark x.issued x.host e q.0
      passed x e (inr a) = absurd (let p = x.below (still (home r.fid.fileset) x.token x.mark x.issued x.host e) in let lt : r.stamp < x.mark.stamp = a.1 r (subst (λ (g : Fid). About A s g.fileset (Revoke r)) (sym x.file) c) (sym x.file) in omega arith)

  new_once : (g : Give) (i : TokenId) → In g s.made → In i g.ids → HasLeftHost A i → ⊥
  new_once g i m n l = let t = may.makes g i m n in (at_hand t.0 t.1).stays (subst (HasLeftHost A) (sym t.2) l)

  module _ (v : ServerId) where
    behind' : epoch_at (s ∷ A) v ≤ epoch (S v)
    behind' =
        elim (raised_cases s.cause v (epoch_at A v)) [
          | inl q ↦ (let le = (link v).behind in omega (arith, q))
          | inr f ↦ (let le = (served v).sent_epoch h f.by.epoch f.by.moves f.by.body (came v f.by.epoch f.by.moves f.by.body (f.by, f.cause, f.at, refl, refl, refl)) in let q = f.epoch in omega arith)
        ]

    known' : (n : AppliedGive) → home n.fileset ≡ v → IsKnownNumber (s ∷ A) n → IsApplied v (S v) h n
    known' n at (inl (made, inl e)) = (served v).gones h (epoch_at A v) 0 n (came v (epoch_at A v) 0 (Gone n) (subst (λ w. ComesIn s w (epoch_at A w) 0 (Gone n)) at e))
    known' n at (inl (made, inr (w, r, c, m))) =
        let a = (served w).reclaimed h (epoch_at A w) 0 r n (came w (epoch_at A w) 0 (Reclaimed r) c) m in
        subst (λ u. IsApplied u (S u) h n) (sym (applied_at w (S w) h n (served w).put a) ∙ at) a
    known' n at (inr e) = (link v).known n at e

    in_flight' : (t : Token) (k : StayStamp) → Issued (S v) t k → t.host ≡ h → t.id.epoch ≡ epoch_at (s ∷ A) v → AboveFloor (s ∷ A) t.fid k.stamp → (HasGoneAway (S v) h → ⊥) → Owed v (S v) t
    in_flight' t k i mine e (inl q) live = absurd (renewed v t k i mine e q.0)
    in_flight' t k i mine e (inr a) live = (link v).in_flight t k i mine (still v t k i mine e) a.0 live

    held' : (t : Token) → t.id.server ≡ v → Owns (s ∷ A) t → Good v (S v) h (s ∷ A) (s ∷ A) t
    held' t at k =
        let x = had t k.0 in
        let here : Good t.id.server (S t.id.server) h (s ∷ A) (s ∷ A) t = record { mark = x.mark; issued = x.issued; host = x.host; passed = x.passed; stays = λ l. elim l [ inl n ↦ k.1 n | inr o ↦ x.stays o ]; owed = x.owed } in
        subst (λ w. Good w (S w) h (s ∷ A) (s ∷ A) t) at here

    ever' : (t : Token) → t.id.server ≡ v → EverHeld (s ∷ A) t → (k : StayStamp) × Issued (S v) t k × (t.host ≡ h)
    ever' t at (inl m) = let x = good_at v t at (inl m) in (x.mark, x.issued, x.host)
    ever' t at (inr o) = (link v).ever t at o

    left' : (i : TokenId) → i.server ≡ v → HasLeftHost (s ∷ A) i → Spent v (S v) h (s ∷ A) i
    left' i at (inl (inl m)) = let t = may.makes m.0 i m.1 m.2 in spent v t.0 i t.1 t.2 at
    left' i at (inl (inr r)) = elim (may.returns i r) [ inl t ↦ spent v t.0 i t.1 t.2 at | inr q ↦ revoked v q.0 i q.1 q.2 at ]
    left' i at (inr o) =
        let x = (link v).left i at o in
        record { token = x.token; mark = x.mark; issued = x.issued; same = x.same; host = x.host; passed = passed_on v x.token x.mark x.issued x.host x.passed }

    made_id' : (g : Give) (i : TokenId) → Made (s ∷ A) g → In i g.ids → i.server ≡ v → home g.fid.fileset ≡ v
    made_id' g i (inl m) n at =
        let t = may.makes g i m n in
        let x = good_at v t.0 (ap (λ (j : TokenId). j.server) t.2 ∙ at) t.1 in
        ap (λ (f : Fid). home f.fileset) (sym t.3) ∙ issued_at v t.0 x.mark x.issued
    made_id' g i (inr m) n at = (link v).made_id g i m n at

    given' : (g : Give) (i : TokenId) → i.server ≡ v → Made (s ∷ A) g → In i g.ids → (IsApplied v (S v) h (number_of g) → ⊥) → (HasGoneAway (S v) h → ⊥) → OwedId v (S v) h i
    given' g i at (inl m) n not live =
        let t = may.makes g i m n in
        let x = good_at v t.0 (ap (λ (j : TokenId). j.server) t.2 ∙ at) t.1 in
        record { token = t.0; owed = x.owed live; same = t.2; host = x.host }
    given' g i at (inr o) n not live = (link v).given g i at o n not live

    not_yet : (g : Give) → In g s.made → IsApplied v (S v) h (number_of g) → ⊥
    not_yet g m a = let k = (link v).applied_made (number_of g) a in absurd (let new : k.0.number < g.number = may.makes_new g k.0 m k.1 k.2 in let le = k.3 in omega arith)

    returned' : (i : TokenId) (g : Give) → i.server ≡ v → HasReturnedToken (s ∷ A) i → Made (s ∷ A) g → In i g.ids → IsApplied v (S v) h (number_of g)
    returned' i g at (inl r) m n = known' (number_of g) (made_id' g i m n at) (may.returns_free i g r m n)
    returned' i g at (inr r) (inl m) n = absurd (new_once g i m n (returned_left A i r))
    returned' i g at (inr r) (inr m) n = (link v).returned i g at r m n

    made_once' : (g k : Give) (i : TokenId) → i.server ≡ v → Made (s ∷ A) g → Made (s ∷ A) k → In i g.ids → In i k.ids → g ≡ k
    made_once' g k i at (inl a) (inl b) p q = may.makes_once g k i a b p q
    made_once' g k i at (inl a) (inr b) p q = absurd (new_once g i a p (made_left A k i b q))
    made_once' g k i at (inr a) (inl b) p q = absurd (new_once k i b q (made_left A g i a p))
    made_once' g k i at (inr a) (inr b) p q = (link v).made_once g k i at a b p q

    applied_taken' : (g : Give) → Made (s ∷ A) g → IsApplied v (S v) h (number_of g) → TookEver v (S v) h g.fid.fileset (GiveBack g)
    applied_taken' g (inl m) a = absurd (not_yet g m a)
    applied_taken' g (inr m) a = (link v).applied_taken g m a

    -- nothing is taken of a server whose claim hasn't counted yet
    untaken : (c : ReclaimOf) (e n : ℕ) (t : Token) → Said A v e n (Reclaim c) → e ≡ epoch (S v) → (HasReclaimed (S v) h → ⊥) → t.id.server ≡ v → In t s.taken → ⊥
    untaken c e n t said now first at m =
        let w = may.takes t m in
        let u = subst (λ x. Brought (S x) h (epoch_at A x) w.0 0 t) at (used_at t w.0 w.1 w.2) in
        let q = u.epoch_is in
        let lo = alone.said_epoch v e n (Reclaim c) said in
        let hi = (served v).issued_epoch t (record { moves = 0; stamp = w.0.stamp }) u.issued in
        first (subst (HasReclaimed (S v)) u.host ((served v).issued_now t (record { moves = 0; stamp = w.0.stamp }) u.issued (omega arith)))

    -- what a server has issued whose claim hasn't counted yet is of an earlier epoch
    older : (t : Token) (k : StayStamp) (e : ℕ) → Issued (S v) t k → t.host ≡ h → e ≡ epoch (S v) → e ≡ epoch_at (s ∷ A) v → (HasReclaimed (S v) h → ⊥) → t.id.epoch < epoch_at (s ∷ A) v
    older t k e i mine now at first =
        elim (cases_lt t.id.epoch (epoch_at (s ∷ A) v)) [
          | inl lt ↦ lt
          | inr ge ↦ absurd (let hi = (served v).issued_epoch t k i in first (subst (HasReclaimed (S v)) mine ((served v).issued_now t k i (omega arith))))
        ]

    -- a step that sends a Reclaim is no stop
    going : (c : ReclaimOf) (e n : ℕ) → Sends s v e n (Reclaim c) → HasStopped (s ∷ A) → ⊥
    going c e n p (w, d, m, inl q) = (let r = may.stops_alone v e n (Reclaim c) (w, d, m, q) p in cc)
    going c e n p (w, d, m, inr q) = may.live (w, d, m, q)

    -- the same claim before the step
    before : (c : ReclaimOf) (k : Claiming v (S v) h (s ∷ A) c) → Said A v k.epoch_is k.moves (Reclaim c) → Claiming v (S v) h A c
    before c k p = record { epoch_is = k.epoch_is; moves = k.moves; said = p; now = k.now; first = k.first }

    claim_held' : (c : ReclaimOf) (t : Token) → Claiming v (S v) h (s ∷ A) c → t.id.server ≡ v → Owns (s ∷ A) t → In t c.tokens
    claim_held' c t k at own = go k.said
      where
        go : Said (s ∷ A) v k.epoch_is k.moves (Reclaim c) → In t c.tokens
        go (inl p) =
            let x = held' t at own in
            (may.claims v k.epoch_is k.moves c p).held t ((alone_step A s alone may).holds (going c k.epoch_is k.moves p) t own) (at, older t x.mark k.epoch_is x.issued x.host k.now (may.epochs v k.epoch_is k.moves (Reclaim c) p) k.first)
        go (inr p) = elim own.0 [ inl m ↦ absurd (untaken c k.epoch_is k.moves t p k.now k.first at m) | inr o ↦ (link v).claim_held c t (before c k p) at o ]

    claim_given' : (c : ReclaimOf) (g : Give) (i : TokenId) → Claiming v (S v) h (s ∷ A) c → i.server ≡ v → Made (s ∷ A) g → In i g.ids → (IsApplied v (S v) h (number_of g) → ⊥) → (t : Token) × In t c.tokens × (t.id ≡ i)
    claim_given' c g i k at m n not = go k.said m
      where
        go : Said (s ∷ A) v k.epoch_is k.moves (Reclaim c) → Made (s ∷ A) g → (t : Token) × In t c.tokens × (t.id ≡ i)
        go (inl p) j =
            let x = left' i at (made_left (s ∷ A) g i j n) in
            let early : i.epoch < epoch_at (s ∷ A) v = subst (λ (y : TokenId). y.epoch < epoch_at (s ∷ A) v) x.same (older x.token x.mark k.epoch_is x.issued x.host k.now (may.epochs v k.epoch_is k.moves (Reclaim c) p) k.first) in
            (may.claims v k.epoch_is k.moves c p).given g i j n (at, early) (λ q. not (known' (number_of g) (made_id' g i j n at) q))
        go (inr p) (inr j) = (link v).claim_given c g i (before c k p) at j n not
        go (inr p) (inl j) =
            let t = may.makes g i j n in
            let here : t.0.id.server ≡ v = ap (λ (y : TokenId). y.server) t.2 ∙ at in
            elim t.1 [
              | inl q ↦ absurd (untaken c k.epoch_is k.moves t.0 p k.now k.first here q)
              | inr o ↦ (t.0, (link v).claim_held c t.0 (before c k p) here (alone.owns t.0 o), t.2)
            ]

    -- a give-back that waits isn't applied
    waiting : (g : Give) → Made (s ∷ A) g → WaitsBehind (s ∷ A) g → IsApplied v (S v) h (number_of g) → ⊥
    waiting g m w a =
        let said = (link v).took_ever g.fid.fileset (GiveBack g) (applied_taken' g m a) in
        w.4 ((alone_step A s alone may).said_first g w.0 v said.0 said.1 (inr said.2) w.1 w.2 w.3)

    claim_owed' : (c : ReclaimOf) (t : Token) → Claiming v (S v) h (s ∷ A) c → (HasGoneAway (S v) h → ⊥) → In t c.tokens → Owed v (S v) t ⊎ ((g : Give) × Made (s ∷ A) g × In t.id g.ids × NamesGive c.numbers g)
    claim_owed' c t k live m = go k.said
      where
        fresh : EverHeld (s ∷ A) t → t.id.server ≡ v → Held (s ∷ A) t ⊎ IsInGive (s ∷ A) c t → Owed v (S v) t ⊎ ((g : Give) × Made (s ∷ A) g × In t.id g.ids × NamesGive c.numbers g)
        fresh e at (inl q) = inl ((held' t at ((alone_step A s alone may).owns t q)).owed live)
        fresh e at (inr (g, j, f, n, inl o)) = inr (g, j, n, o)
        fresh e at (inr (g, j, f, n, inr w)) =
            let x = given' g t.id at j n (waiting g j w) live in
            let y = (served v).owed_issued x.token x.owed in
            let i = ever' t at e in
            inl (subst (Owed v (S v)) ((served v).unique x.token t y.0 i.0 y.1 i.1 x.same).0 x.owed)

        go : Said (s ∷ A) v k.epoch_is k.moves (Reclaim c) → Owed v (S v) t ⊎ ((g : Give) × Made (s ∷ A) g × In t.id g.ids × NamesGive c.numbers g)
        go (inl p) = let o = (may.claims v k.epoch_is k.moves c p).only t m in fresh o.0 o.1.0 o.2
        go (inr p) = elim ((link v).claim_owed c t (before c k p) live m) [ inl o ↦ inl o | inr g ↦ inr (g.0, inr g.1, g.2, g.3) ]

    taken' : (g : Give) (t : Token) → Made (s ∷ A) g → In t.id g.ids → t.host ≡ h → IsApplied v (S v) h (number_of g) → Granted v (S v) t → ⊥
    taken' g t (inl m) n mine a k = not_yet g m a
    taken' g t (inr m) n mine a k = (link v).taken g t m n mine a k

    claim_spent' : (c : ReclaimOf) (g : Give) (t : Token) → Claiming v (S v) h (s ∷ A) c → In t c.tokens → Made (s ∷ A) g → In t.id g.ids → IsApplied v (S v) h (number_of g) → NamesGive c.numbers g ⊎ TookOf v (S v) h g.fid.fileset (GiveBack g)
    claim_spent' c g t k m (inl j) n a = absurd (not_yet g j a)
    claim_spent' c g t k m (inr j) n a = go k.said
      where
        one : t.id.server ≡ v → (f : Give) → Made (s ∷ A) f → In t.id f.ids → f ≡ g
        one at f made i = made_once' f g t.id at made (inr j) i n

        pick : t.id.server ≡ v → Held (s ∷ A) t ⊎ IsInGive (s ∷ A) c t → NamesGive c.numbers g ⊎ TookOf v (S v) h g.fid.fileset (GiveBack g)
        pick at (inl o) = absurd ((held' t at ((alone_step A s alone may).owns t o)).stays (made_left (s ∷ A) g t.id (inr j) n))
        pick at (inr (f, made, q, i, inl o)) = inl (subst (λ (y : Give). NamesGive c.numbers y) (one at f made i) o)
        pick at (inr (f, made, q, i, inr w)) = absurd (waiting f made w (subst (λ (y : Give). IsApplied v (S v) h (number_of y)) (sym (one at f made i)) a))

        go : Said (s ∷ A) v k.epoch_is k.moves (Reclaim c) → NamesGive c.numbers g ⊎ TookOf v (S v) h g.fid.fileset (GiveBack g)
        go (inl p) = let o = (may.claims v k.epoch_is k.moves c p).only t m in pick o.1.0 o.2
        go (inr p) = (link v).claim_spent c g t (before c k p) m j n a

    pub host_step : Link h v (s ∷ A) (S v)
    host_step = record {
      behind = behind';
      asked = λ t k i mine. (let le = (link v).asked t k i mine in let up = epoch_grows A s v in omega arith);
      took = λ n b t. inr ((link v).took n b t);
      took_of = λ fs b t. let x = (link v).took_of fs b t in (x.0, inr x.1);
      took_ever = λ fs b t. let x = (link v).took_ever fs b t in (x.0, x.1, inr x.2);
      known = known';
      in_flight = in_flight';
      held = held';
      ever = ever';
      left = left';
      made_id = made_id';
      given = given';
      returned = returned';
      made_once = made_once';
      applied_made = λ n a. let k = (link v).applied_made n a in (k.0, inr k.1, k.2, k.3);
      applied_taken = applied_taken';
      taken = taken';
      claim_spent = claim_spent';
      claim_held = claim_held';
      claim_given = claim_given';
      claim_owed = claim_owed';
      granted_owed = λ t mine g. (link v).granted_owed t mine g;
      left_out = λ e n r i p m. inr ((link v).left_out e n r i p m);
      away = λ a. elim ((link v).away a) [ inl d ↦ inl (d.0, d.1, d.2, inr d.3) | inr b ↦ inr (b.0, b.1, inr b.2) ];
    }
