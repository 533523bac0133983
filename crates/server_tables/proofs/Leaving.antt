-- A host goes away: its Down is taken, of whatever epoch, or its Bye, of the present one.
use Rattle.std.proofs.Common.{◌≡◌, ℕ, ◌≤◌, ◌⊎◌, is_some, true, false, List, ◌∷◌, inl, inr, refl, sym, ◌∙◌, ap, subst}
use Rattle.std.specs.Option.{option_map_or}
use Rattle.base_types.specs.declared.ids.HostId.{HostId}
use Rattle.base_types.specs.declared.ids.ServerId.{ServerId}
use Rattle.message_types.specs.declared.message.Body.{Body}
use Rattle.message_types.specs.declared.message.Body.TheVariants.{Hello, Down, Bye, Kept, Returned, GiveBack}
use Rattle.token_manager.specs.declared.grants.Grants.{Grants}
use Rattle.token_table.specs.declared.notes.Note.{Note}
use Rattle.token_table.specs.Marks.{note_at}
use Rattle.token_types.specs.declared.token.Token.{Token}
use Rattle.token_types.specs.declared.token.TokenId.{TokenId}
use Rattle.run_rules.specs.Doings.{Doing, GivesUp, GoesAway, Granted, HasGoneDown, HasReclaimed}
use Rattle.run_rules.specs.Doings.{Hears, IsLive, IsNewlyGranted, Listed, NoGrace, epoch}
use Rattle.run_rules.specs.Doings.Doing.{Took}
use Rattle.run_rules.specs.Past.{In}
use Rattle.run_rules.specs.ServerMay.{HasRevoked}
use Rattle.run_rules.specs.Wants.{Decides, IsQueued, Unwants}
use Rattle.run_rules.specs.declared.applied.Request.TheVariants.{Change as Changes, Fetch as Asks}
use Rattle.run_rules.specs.declared.applied.Request.{Request}
use Rattle.run_rules.specs.declared.applied.Wanted.{Wanted}
use Rattle.server_tables.specs.declared.hosts.Hosts.{Hosts}
use Rattle.server_tables.specs.declared.pending.Pending.{Pending}
use Rattle.server_tables.proofs.Still.{asked_by}
use Rattle.server_tables.specs.Standing.{HostsStand, StampsStand, TokensStand, WantsStand, tokens_of}

-- the host's tokens are gone, and the notes of them
pub record IsWithoutHost (grants without : Grants) (host : HostId) : Type 0 where
  pub server : without.table.server ≡ grants.table.server
  pub epoch : without.table.epoch ≡ grants.table.epoch
  pub last : without.table.last ≡ grants.table.last
  pub were : (t : Token) → In t (tokens_of without) → In t (tokens_of grants)
  pub gone : (t : Token) → In t (tokens_of without) → t.host ≡ host → ⊥
  pub stay : (t : Token) → In t (tokens_of grants) → (t.host ≡ host → ⊥) → In t (tokens_of without)
  pub same : (t : Token) → In t (tokens_of without) → note_at without.notes t.id ≡ note_at grants.notes t.id
  pub noted : (i : TokenId) → is_some (note_at without.notes i) ≡ true → (t : Token) × In t (tokens_of without) ×
      (t.id ≡ i)

module _ (past : List Doing) (server : ServerId) (h : HostId) (e n : ℕ) (b : Body) (kind : (b ≡ Down) ⊎ ((b ≡ Bye) ×
    (e ≡ epoch past) × Listed past h × (HasGoneDown past h → ⊥))) where
  abbrev a : Doing
  a = Took h e n b

  pub not_body : (d : Body) → (d ≡ Down → ⊥) → (d ≡ Bye → ⊥) → b ≡ d → ⊥
  not_body d p q is = elim kind [ inl k ↦ p (sym is ∙ k) | inr k ↦ q (sym is ∙ k.0) ]

  its_host : (k : HostId) (f m : ℕ) (d : Body) → a ≡ Took k f m d → h ≡ k
  its_host k f m d p = cc

  pub its_body : (k : HostId) (f m : ℕ) (d : Body) → a ≡ Took k f m d → b ≡ d
  its_body k f m d p = cc

  pub leaves : GoesAway past a h
  leaves = elim kind [
    | inl k ↦ inl (e, n, ap (λ (d : Body). Took h e n d) k)
    | inr k ↦ inr ((n, (let p = k.0 in let q = k.1 in cc)), k.2, k.3)
  ]

  only : (k : HostId) → GoesAway past a k → k ≡ h
  only k (inl p) = sym (its_host k p.0 p.1 Down p.2)
  only k (inr p) = sym (its_host k (epoch past) p.0.0 Bye p.0.1)

  not_hello : (k : HostId) → Hears a k Hello → ⊥
  not_hello k p = not_body Hello (λ q. cc) (λ q. cc) (its_body k p.0 p.1 Hello p.2)

  pub listed_back : (k : HostId) → Listed (a ∷ past) k → Listed past k
  listed_back k (inl p) = absurd (not_hello k p.0)
  listed_back k (inr p) = p

  pub reclaimed_back : (k : HostId) → HasReclaimed (a ∷ past) k → HasReclaimed past k
  reclaimed_back k (inl p) = elim p [ inl q ↦ absurd (let r = q.1 in cc) | inr q ↦ absurd (q.1 (listed_back k q.0)) ]
  reclaimed_back k (inr p) = p.0

  pub live_back : (k : HostId) → IsLive (a ∷ past) k → IsLive past k
  live_back k l = (listed_back k l.0, λ w. l.1 (inr w))

  live_on : (k : HostId) → (k ≡ h → ⊥) → IsLive past k → IsLive (a ∷ past) k
  live_on k other l = (inr l.0, λ w. elim w [ inl g ↦ other (only k g) | inr g ↦ l.1 g ])

  -- no grace period begins by it; one may end
  pub over_on : NoGrace past → NoGrace (a ∷ past)
  over_on g k l = inr (g k (live_back k l), λ z. let p = z.1 in cc)

  newly : (t : Token) → IsNewlyGranted a t → ⊥
  newly t (inl p) = elim p.1.3 [ inl q ↦ (let r = q.1 in cc) | inr q ↦ (let r = q.1 in cc) ]
  newly t (inr p) = let q = p.1 in cc

  pub names : (k : HostId) (i : TokenId) → GivesUp server past a k i → ⊥
  names k i (inl p) = not_body (Returned p.0) (λ q. cc) (λ q. cc) (its_body k (epoch past) p.1.0 (Returned p.0) p.1.2.0)
  names k i (inr p) = not_body (GiveBack p.0) (λ q. cc) (λ q. cc) (its_body k (epoch past) p.1.0 (GiveBack p.0) p.1.2.0)

  module _ (grants left : Grants) (s : TokensStand past server grants) (w : IsWithoutHost grants left h) where
    on : (t : Token) → In t (tokens_of left) → Granted server (a ∷ past) t
    on t m = inr (
      s.granted t (w.were t m),
      (λ z. let p = z.1 in cc),
      names t.host t.id,
      λ g. w.gone t m (only t.host g),
    )

    ins : (t : Token) → Granted server (a ∷ past) t → In t (tokens_of left)
    ins t (inl p) = absurd (newly t p)
    ins t (inr p) = w.stay t (s.granted_all t p.0) (λ q. p.3 (subst (λ (k : HostId). GoesAway past a k) (sym q) leaves))

    pub tokens_left : TokensStand (a ∷ past) server left
    tokens_left = record {
      server_is = w.server ∙ s.server_is;
      epoch_is = w.epoch ∙ s.epoch_is;
      granted = on;
      granted_all = ins;
      pinned = λ t m p. (
        inr (s.pinned t (w.were t m) (sym (ap (λ o. option_map_or
            (λ (note : Note). note.pinned) o false) (w.same t m)) ∙ p)),
        on t m,
      );
      pinned_all = λ t p. elim p.0 [
        | inl k ↦ absurd (not_body (Kept k.0) (λ q. cc) (λ q. cc) (its_body t.host (epoch past) k.1.0
            (Kept k.0) k.1.2.0))
        | inr k ↦ ap (λ o. option_map_or (λ (note : Note). note.pinned) o false) (w.same t (ins t p.1))
            ∙ s.pinned_all t k
      ];
      here = λ t g z. elim z [
        | inl p ↦ w.gone t (ins t g) (only t.host p)
        | inr p ↦
            s.here t (s.granted t (w.were t (ins t g))) p
      ];
      live = λ t g. live_on t.host (w.gone t (ins t g)) (s.live t (s.granted t (w.were t (ins t g))));
      known = λ t m. ap is_some (w.same t m) ∙ s.known t (w.were t m);
      issued = λ t k i q. subst (λ (z : ℕ). t.id.seq ≤ z) (sym w.last) (elim i [
        | inl p ↦ absurd (newly t (inl (
          k,
          p,
        )))
        | inr p ↦ s.issued t k p q
      ]);
      issued_up_to = λ t k i. elim i [ inl p ↦ absurd (newly t (inl (k, p))) | inr p ↦ s.issued_up_to t k p ];
      noted = w.noted;
      old = λ t m q. subst (λ (z : ℕ). t.id.seq ≤ z) (sym w.last) (s.old t (w.were t m) q);
      none_reserved = λ t r. elim r [ inl k ↦ (let q = k.1 in cc) | inr k ↦ s.none_reserved t k.0 ];
      one = λ t u k i e g q. elim i [
        | inl p ↦ absurd (newly t (inl (k, p)))
        | inr p ↦ elim g [ inl n ↦ absurd (newly u n) | inr o ↦ s.one t u k p e o.0 q ]
      ];
    }

    pub stamps_left : {stamp : ℕ} → StampsStand past grants stamp → StampsStand (a ∷ past) left stamp
    stamps_left z = record {
      told = λ f x t. elim t [
        | inl q ↦ absurd (elim q [
          | inl p ↦ elim p.4 [
            | inl r ↦ (let u = r.1 in cc)
            | inr r ↦
                (let u = r.1 in cc)
          ]
          | inr p ↦ (let u = p.4 in cc)
        ])
        | inr q ↦ z.told f x q.0
      ];
      revoked = λ t m p. inr (
        z.revoked t (w.were t m) (sym (ap (λ o. option_map_or
            (λ (note : Note). note.revoked) o false) (w.same t m)) ∙ p),
        λ y. let q = y.1 in cc,
      );
      revoked_all = λ t m r. ap (λ o. option_map_or (λ (note : Note). note.revoked) o false) (w.same t m)
          ∙ z.revoked_all t (w.were t m) (back t r);
      revoked_old = λ t r q. subst (λ (y : ℕ). t.id.seq ≤ y) (sym w.last) (z.revoked_old t (back t r) q);
      revoked_live = λ t r. inr (z.revoked_live t (back t r), λ y. let q = y.1 in cc);
    }
      where
        back : (t : Token) → HasRevoked (a ∷ past) t → HasRevoked past t
        back t (inl p) = absurd (let q = p.3 in cc)
        back t (inr p) = p.0

  -- `qs` are the wants of the others
  module _ (next : ℕ) (ps qs : List Pending) (s : WantsStand past server next ps)
      (of : (p : Pending) → In p qs → In p ps × (p.wanted.host ≡ h → ⊥)) (all : (p : Pending) → In p ps →
      (p.wanted.host ≡ h → ⊥) → In p qs) where
    unmade : (k : HostId) (r : Request) → Decides a k r → ⊥
    unmade k (Asks f) d = let p = d.3 in cc
    unmade k (Changes f) (inl d) = let p = d.1 in cc
    unmade k (Changes f) (inr d) = let p = d.3 in cc

    stays : (w : Wanted) → (w.host ≡ h → ⊥) → IsQueued past w → IsQueued (a ∷ past) w
    stays w other p = inr (p, not)
      where
        not : Unwants past a w → ⊥
        not (inl d) = unmade w.host w.request d
        not (inr (inl v)) = let q = v.1 in cc
        not (inr (inr (inl g))) = other (only w.host g)
        not (inr (inr (inr z))) = let q = z.1 in cc

    pub waited : (w : Wanted) → IsQueued (a ∷ past) w → IsQueued past w × (w.host ≡ h → ⊥)
    waited w (inl p) = absurd (cc)
    waited w (inr p) = (p.0, λ q. p.1 (inr (inr (inl (subst (λ (k : HostId). GoesAway past a k) (sym q) leaves)))))

    pub wants_gone : WantsStand (a ∷ past) server next qs
    wants_gone = record {
      pending = λ p m. stays p.wanted (of p m).1 (s.pending p (of p m).0);
      pending_all = λ w u. let q = s.pending_all w (waited w u).0 in
          (q.0, all q.0 q.1 (λ k. (waited w u).1 (sym (ap (λ (z : Wanted). z.host) q.2) ∙ k)), q.2);
      order = λ p q m k l. (
        inr (s.order p q (of p m).0 (of q k).0 l),
        stays p.wanted (of p m).1 (s.pending p
            (of p m).0),
        stays q.wanted (of q k).1 (s.pending q (of q k).0),
      );
      order_all = λ p q m k t. s.order_all p q (of p m).0 (of q k).0 (elim t.0 [
        | inl x ↦ absurd (let y = x.1 in
            cc)
        | inr x ↦ x
      ]);
      live = λ w u. live_on w.host (waited w u).1 (s.live w (waited w u).0);
      took = λ w u. inr (s.took w (waited w u).0, λ z. let q = z.1 in cc);
      here = λ w u. asked_by server past (a ∷ past) (λ f. refl) w.moves w.request (s.here w (waited w u).0);
      once = λ w v u x. s.once w v (waited w u).0 (waited v x).0;
      few = λ p m. s.few p (of p m).0;
      below = λ p m. s.below p (of p m).0;
    }

  -- the list of hosts after it
  pub hosts_gone : (x : Hosts) (downs aways : List HostId) → HostsStand past x
      → ((k : HostId) → In k downs → In k x.down ⊎ ((k ≡ h) × (b ≡ Down))) → ((k : HostId) → In k x.down
      → In k downs) → (b ≡ Down → In h downs)
      → ((k : HostId) → In k aways → In k x.away ⊎ (k ≡ h)) → ((k : HostId) → In k x.away → In k aways) → In h aways
      → HostsStand (a ∷ past) (record x { away = aways; down = downs })
  hosts_gone x downs aways s of was now away_of away_was away_now = record {
    epoch_is = s.epoch_is;
    sent_up_to = λ k f m d w. elim w [ inl p ↦ absurd (cc) | inr p ↦ s.sent_up_to k f m d p ];
    listed = λ k m. inr (s.listed k m);
    listed_all = λ k w. s.listed_all k (listed_back k w);
    down = λ k m. elim (of k m) [ inl p ↦ inr (s.down k p) | inr p ↦ inl (e, n, (let q = p.0 in let r = p.1 in cc)) ];
    down_all = λ k w. elim w [
      | inl p ↦ subst (λ (z : HostId). In z downs) (its_host k p.0 p.1 Down p.2)
          (now (its_body k p.0 p.1 Down p.2))
      | inr p ↦ was k (s.down_all k p)
    ];
    away = λ k m. elim (away_of k m) [
      | inl p ↦ inr (s.away k p)
      | inr p ↦
          inl (subst (λ (z : HostId). GoesAway past a z) (sym p) leaves)
    ];
    away_all = λ k w. elim w [
      | inl p ↦ subst (λ (z : HostId). In z aways) (sym (only k p)) away_now
      | inr p ↦
          away_was k (s.away_all k p)
    ];
    now = λ k m. inr (s.now k m, λ z. let q = z.1 in cc);
    now_all = λ k w. elim w [ inl p ↦ absurd (p.1 (listed_back k p.0)) | inr p ↦ s.now_all k p.0 ];
    reclaimed = λ k m. inr (s.reclaimed k m, λ z. let q = z.1 in cc);
    reclaimed_all = λ k w. s.reclaimed_all k (reclaimed_back k w);
  }
