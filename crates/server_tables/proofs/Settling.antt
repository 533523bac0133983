-- Where no queued want can be decided, and all that is wanted is asked back, the server is settled.
use Rattle.std.proofs.Common.{◌≡◌, ℕ, ◌<◌, ◌⊎◌, Bool, true, false, ◌&&◌, ◌||◌, nat_lt, not, is_none, is_some, List}
use Rattle.std.proofs.Common.{[], ◌∷◌, map, inl, inr, sym, ◌∙◌, ap, subst, refl, arith}
use Rattle.std.specs.List.{list_any, find}
use Rattle.std.proofs.lemmas.Bool.{cases_Bool, false≢true, and_from}
use Rattle.base_types.specs.declared.ids.HostId.{HostId}
use Rattle.base_types.specs.declared.ids.ServerId.{ServerId}
use Rattle.message_types.specs.declared.giving.Reclaim.{Reclaim as ReclaimOf}
use Rattle.message_types.specs.declared.message.Body.TheVariants.{Reclaim}
use Rattle.token_manager.specs.declared.grants.Grants.{Grants}
use Rattle.token_manager.specs.declared.want.Want.{Want as WantOf}
use Rattle.token_manager.specs.Grants.{is_blocked, is_pinned_ahead, pinned_in_the_way}
use Rattle.token_manager.specs.Managers.{can_decide}
use Rattle.token_manager.specs.Wants.{first_ahead, is_ahead}
use Rattle.token_manager.proofs.Revoking.{any_found}
use Rattle.token_table.specs.Marks.{is_pinned}
use Rattle.token_table.specs.Tables.{near}
use Rattle.token_table.proofs.Nearby.{near_blocks}
use Rattle.token_types.specs.Conflicts.{blocks, wants_conflict}
use Rattle.token_types.specs.declared.token.Token.{Token}
use Rattle.run_rules.specs.Doings.{Doing, Granted, HasReclaimed, IsLive, NoGrace, Pinned, TookNow}
use Rattle.run_rules.specs.Past.{In}
use Rattle.run_rules.specs.ServerMay.{HasRevoked, IsAskedBack}
use Rattle.run_rules.specs.ServerTokens.{HasTakenGives}
use Rattle.run_rules.specs.Wants.{CanDecide, CanGrant, CanRefuse, IsBehind, IsQueued, asker}
use Rattle.run_rules.specs.declared.applied.Wanted.{Wanted}
use Rattle.server_tables.specs.declared.tables.Tables.{Tables}
use Rattle.server_tables.specs.declared.pending.Pending.{Pending}
use Rattle.server_tables.specs.Standing.{IsCalm, IsSettled, QueueStands, StampsStand, Stands, TokensStand, WantsStand}
use Rattle.server_tables.specs.Standing.{tokens_of, want_for}

pub in_map : {A B : Type 0} (f : A → B) (x : A) (xs : List A) → In x xs → In (f x) (map f xs)
in_map f x [] m = m
in_map f x (y ∷ ys) (inl e) = inl (ap f e)
in_map f x (y ∷ ys) (inr m) = inr (in_map f x ys m)

pub of_map : {A B : Type 0} (f : A → B) (y : B) (xs : List A) → In y (map f xs) → (x : A) × In x xs × (f x ≡ y)
of_map f y [] m = elim m [ ]
of_map f y (x ∷ xs) (inl e) = (x, inl refl, sym e)
of_map f y (x ∷ xs) (inr m) = let p = of_map f y xs m in (p.0, inr p.1, p.2)

pub any_in : {A : Type 0} (p : A → Bool) (xs : List A) → list_any p xs ≡ true → (x : A) × In x xs × (p x ≡ true)
any_in p [] e = absurd (cc)
any_in p (x ∷ xs) e = elim (cases_Bool (p x)) [
  | inl h ↦ (x, inl refl, h)
  | inr h ↦ (let r = any_in p xs (sym (ap (λ (b : Bool). b || list_any p xs) h) ∙ e) in (r.0, inr r.1, r.2))
]

pub in_any : {A : Type 0} (p : A → Bool) (x : A) (xs : List A) → In x xs → p x ≡ true → list_any p xs ≡ true
in_any p x [] m e = elim m [ ]
in_any p x (y ∷ ys) (inl q) e = ap (λ (b : Bool). b || list_any p ys) (ap p (sym q) ∙ e)
in_any p x (y ∷ ys) (inr m) e = elim (cases_Bool (p y)) [
  | inl h ↦ ap (λ (b : Bool). b || list_any p ys) h
  | inr h ↦ ap (λ (b : Bool). b || list_any p ys) h ∙ in_any p x ys m e
]

pub found_in : {A : Type 0} (p : A → Bool) (xs : List A) → is_none (find p xs) ≡ false → (x : A) × In x xs ×
    (p x ≡ true)
found_in p [] e = absurd (cc)
found_in p (x ∷ xs) e = elim (cases_Bool (p x)) [
  | inl h ↦ (x, inl refl, h)
  | inr h ↦ (let r = found_in p xs (rw h at e) in (r.0, inr r.1, r.2))
]

pub both : (x y : Bool) → (x && y) ≡ true → (x ≡ true) × (y ≡ true)
both true y e = (refl, e)
both false y e = absurd (false≢true e)

-- a want that can't be decided waits for an earlier one, or is blocked by tokens that aren't pinned
pub why : (grants : Grants) (queue : List WantOf) (w : WantOf) → can_decide grants queue w ≡ false
    → (is_none (first_ahead queue w) ≡ false) ⊎ ((is_blocked grants w ≡ true) × (is_some (pinned_in_the_way grants w)
    ≡ false))
why grants queue w e = go (is_none (first_ahead queue w)) (is_blocked grants w) (is_some (pinned_in_the_way grants w)) e
  where
    go : (a b c : Bool) → (a && (not b || c)) ≡ false → (a ≡ false) ⊎ ((b ≡ true) × (c ≡ false))
    go false b c e = inl refl
    go true true false e = inr (refl, refl)
    go true true true e = absurd (cc)
    go true false c e = absurd (cc)

-- a pinned token in the way of a want is found
pub finds_pinned : (grants : Grants) (w : WantOf) (t : Token) → In t (tokens_of grants) → blocks w.host w.needs t ≡ true
    → is_pinned grants.notes t.id ≡ true → is_some (pinned_in_the_way grants w) ≡ true
finds_pinned grants w t m b p =
    any_found (is_pinned_ahead grants.notes w) (near (tokens_of grants) [] w.needs)
    ∙ (near_blocks w.host w.needs (λ token. is_pinned grants.notes token.id) (tokens_of grants)
    ∙ in_any (is_pinned_ahead grants.notes w) t (tokens_of grants) m (and_from (blocks w.host w.needs t)
    (is_pinned grants.notes t.id) b p))

module _ (past : List Doing) (v : ServerId) (grants : Grants) (stamp next : ℕ) (queue : List WantOf) (ps : List Pending)
    (ts : TokensStand past v grants) (ss : StampsStand past grants stamp) (ws : WantsStand past v next ps)
    (qs : QueueStands past queue ps) where
  pub pinned_granted : (t : Token) → Pinned v past t → Granted v past t
  pinned_granted t p = go past p
    where
      go : (acts : List Doing) → Pinned v acts t → Granted v acts t
      go [] q = q
      go (a ∷ acts) q = q.1

  pub queued : NoGrace past → (p : Pending) → In p ps → In (want_for p) queue
  queued over p m = subst (In (want_for p)) (sym (qs.calm over)) (in_map want_for p ps m)

  -- a queued want that waits for another was made behind it
  pub is_behind : NoGrace past → (p : Pending) → In p ps → is_none (first_ahead queue (want_for p)) ≡ false
      → IsBehind past p.wanted
  is_behind over p m e =
      let found = found_in (is_ahead (want_for p)) queue e in
      let from = of_map want_for found.0 ps (subst (In found.0) (qs.calm over) found.1) in
      let ahead : is_ahead (want_for p) (want_for from.0) ≡ true = ap (is_ahead (want_for p)) from.2 ∙ found.2 in
      let parts = both (nat_lt from.0.number p.number) (wants_conflict (asker p.wanted) p.wanted.needs
      (asker from.0.wanted) from.0.wanted.needs) ahead in
      (from.0.wanted, ws.order from.0 p from.1 m (before from.0 parts.0), parts.1)
    where
      before : (q : Pending) → nat_lt q.number p.number ≡ true → q.number < p.number
      before q l = grind arith

  module _ (calm : IsCalm grants queue) where
    none_to_grant : (p : Pending) → In p ps → CanGrant v past p.wanted → ⊥
    none_to_grant p m g = elim (why grants queue (want_for p) (calm.none_ready (want_for p) (queued g.over p m))) [
      | inl e ↦ g.first (is_behind g.over p m e)
      | inr e ↦ (let b = any_in (blocks (asker p.wanted) p.wanted.needs) (tokens_of grants) e.0 in
          g.free b.0 (inl (ts.granted b.0 b.1)) b.2)
    ]

    none_to_refuse : (p : Pending) → In p ps → CanRefuse v past p.wanted → ⊥
    none_to_refuse p m g = elim (why grants queue (want_for p) (calm.none_ready (want_for p) (queued g.over p m))) [
      | inl e ↦ g.first (is_behind g.over p m e)
      | inr e ↦ (let u = g.pinned in
          false≢true (sym e.1 ∙ finds_pinned grants (want_for p) u.0 (ts.granted_all u.0
          (pinned_granted u.0 u.1)) u.2 (ts.pinned_all u.0 u.1)))
    ]

    pub none_ready : (w : Wanted) → IsQueued past w → CanDecide v past w → ⊥
    none_ready w waits r =
        let p = ws.pending_all w waits in
        elim (subst (CanDecide v past) (sym p.2) r) [
          | inl g ↦ none_to_grant p.0 p.1 g
          | inr g ↦
              none_to_refuse p.0 p.1 g
        ]

    pub all_asked : (t : Token) → IsAskedBack v past t → HasRevoked past t
    all_asked t k =
        let p = ws.pending_all k.w k.waits in
        ss.revoked t in_tokens (calm.asked_back (want_for p.0) t (queued k.over p.0 p.1) in_tokens
        (subst (λ (w : Wanted). blocks (asker w) w.needs t ≡ true) (sym p.2) k.blocks_it) unpinned)
      where
        in_tokens : In t (tokens_of grants)
        in_tokens = ts.granted_all t k.granted

        unpinned : is_pinned grants.notes t.id ≡ false
        unpinned = elim (cases_Bool (is_pinned grants.notes t.id)) [
          | inl p ↦
              absurd (k.unpinned (ts.pinned t in_tokens p))
          | inr p ↦ p
        ]

pub calm_means : (past : List Doing) (x : Tables) → Stands past x → IsCalm x.tokens.grants x.tokens.queue
    → ((h : HostId) (n : ℕ) (claim : ReclaimOf) → TookNow past h n (Reclaim claim) → (HasReclaimed past h → ⊥)
    → IsLive past h → HasTakenGives x.server past h claim → ⊥)
    → IsSettled x.server past
calm_means past x s calm none = record {
  rested = none_ready past x.server x.tokens.grants x.stamp x.next x.tokens.queue x.pending s.tokens s.stamps s.wants
      s.queue calm;
  asked = all_asked past x.server x.tokens.grants x.stamp x.next x.tokens.queue x.pending s.tokens s.stamps s.wants
      s.queue calm;
  claims = none;
}
