-- What the lists of hosts say of a server's doings, where they stand for these.
use Rattle.std.proofs.Common.{◌≡◌, ◌⊎◌, ◌==◌, Bool, true, false, ◌||◌, not, List, [], ◌∷◌, ◌++◌, if◌then◌else◌, inl}
use Rattle.std.proofs.Common.{inr, refl, sym, ◌∙◌, ap, subst, eq-eqb}
use Rattle.std.specs.List.{list_all}
use Rattle.std.proofs.lemmas.Bool.{and_from, and_parts, cases_Bool, false≢true}
use Rattle.base_types.specs.declared.ids.HostId.{HostId}
use Rattle.run_rules.specs.Doings.{Doing, IsLive, NoGrace}
use Rattle.run_rules.specs.Past.{In}
use Rattle.server_tables.specs.declared.hosts.Hosts.{Hosts}
use Rattle.server_tables.specs.Listing.{has_host, is_live, leaving, no_grace}
use Rattle.server_tables.specs.Standing.{HostsStand}
use Rattle.server_tables.proofs.Fetching.{same_host}
use Rattle.server_tables.proofs.Greeting.{in_end, in_front, in_parts}
use Rattle.server_tables.proofs.Queueing.{one_is}
use Rattle.server_tables.proofs.Settling.{any_in, in_any}

pub all_in : {A : Type 0} (p : A → Bool) (xs : List A) → list_all p xs ≡ true → (x : A) → In x xs → p x ≡ true
all_in p [] e x m = elim m [ ]
all_in p (y ∷ ys) e x (inl q) = ap p q ∙ (and_parts (p y) (list_all p ys) e).0
all_in p (y ∷ ys) e x (inr m) = all_in p ys (and_parts (p y) (list_all p ys) e).1 x m

pub in_all : {A : Type 0} (p : A → Bool) (xs : List A) → ((x : A) → In x xs → p x ≡ true) → list_all p xs ≡ true
in_all p [] f = refl
in_all p (y ∷ ys) f = and_from (p y) (list_all p ys) (f y (inl refl)) (in_all p ys (λ x m. f x (inr m)))

or_from : (x y : Bool) → (x ≡ true) ⊎ (y ≡ true) → (x || y) ≡ true
or_from true y p = refl
or_from false y (inl p) = absurd (false≢true p)
or_from false y (inr p) = p

or_to : (x y : Bool) → (x || y) ≡ true → (x ≡ true) ⊎ (y ≡ true)
or_to true y p = inl refl
or_to false y p = inr p

not_true : (x : Bool) → not x ≡ true → x ≡ false
not_true true p = absurd (false≢true p)
not_true false p = refl

pub has_in : (xs : List HostId) (h : HostId) → has_host xs h ≡ true → In h xs
has_in xs h e = let q = any_in (λ (other : HostId). other.0 == h.0) xs e in subst (λ (z : HostId). In z xs)
    (same_host q.0 h q.2) q.1

pub in_has : (xs : List HostId) (h : HostId) → In h xs → has_host xs h ≡ true
in_has xs h m = in_any (λ (other : HostId). other.0 == h.0) h xs m (eq-eqb h.0 h.0 refl)

module _ (past : List Doing) (x : Hosts) (s : HostsStand past x) where
  pub live_is : (h : HostId) → is_live x h ≡ true → IsLive past h
  live_is h e = let p = and_parts (has_host x.listed h) (not (has_host x.away h)) e in (
    s.listed h (has_in x.listed h p.0),
    λ w. false≢true (sym (not_true (has_host x.away h) p.1) ∙ in_has x.away h
        (s.away_all h w)),
  )

  pub is_live_all : (h : HostId) → IsLive past h → is_live x h ≡ true
  is_live_all h l = and_from (has_host x.listed h) (not (has_host x.away h)) (in_has x.listed h (s.listed_all h l.0))
      (elim (cases_Bool (has_host x.away h)) [
        | inl e ↦ absurd (l.1 (s.away h (has_in x.away h e)))
        | inr e ↦ ap not e
      ])

  pub over_is : no_grace x ≡ true → NoGrace past
  over_is e h l = elim (or_to (has_host x.away h) (has_host x.reclaimed h) (all_in
      (λ (host : HostId). has_host x.away host || has_host x.reclaimed host) x.listed e h (s.listed_all h l.0))) [
        | inl p ↦ absurd (l.1 (s.away h (has_in x.away h p)))
        | inr p ↦ s.reclaimed h (has_in x.reclaimed h p)
      ]

  pub is_over : NoGrace past → no_grace x ≡ true
  is_over g = in_all (λ (host : HostId). has_host x.away host || has_host x.reclaimed host) x.listed (λ h m. or_from
      (has_host x.away h) (has_host x.reclaimed h) (elim (cases_Bool (has_host x.away h)) [
        | inl e ↦ inl e
        | inr e ↦ inr (in_has x.reclaimed h (s.reclaimed_all h (g h (
          s.listed h m,
          λ w. false≢true (sym e ∙ in_has x.away h (s.away_all h w)),
        ))))
      ]))

  pub in_grace : no_grace x ≡ false → NoGrace past → ⊥
  in_grace e g = false≢true (sym e ∙ is_over g)

-- who is away once a host leaves
pub leaving_of : (x : Hosts) (h k : HostId) → In k (leaving x h).away → In k x.away ⊎ (k ≡ h)
unfolding leaving
leaving_of x h k m = elim (cases_Bool (has_host x.away h)) [
  | inl e ↦ inl (subst (λ (b : Bool). In k (if b then x else record x { away = x.away ++ h ∷ [] }).away) e m)
  | inr e ↦ elim (in_parts k x.away (h ∷ []) (subst (λ (b : Bool). In k (if b then x else record x {
    away =
        x.away ++ h ∷ [];
  }).away) e m)) [ inl p ↦ inl p | inr p ↦ inr (one_is k h p) ]
]

pub leaving_was : (x : Hosts) (h k : HostId) → In k x.away → In k (leaving x h).away
unfolding leaving
leaving_was x h k m = elim (cases_Bool (has_host x.away h)) [
  | inl e ↦ subst (λ (b : Bool). In k (if b then x else record x { away = x.away ++ h ∷ [] }).away) (sym e) m
  | inr e ↦ subst (λ (b : Bool). In k (if b then x else record x { away = x.away ++ h ∷ [] }).away) (sym e)
      (in_front k x.away (h ∷ []) m)
]

pub leaving_now : (x : Hosts) (h : HostId) → In h (leaving x h).away
unfolding leaving
leaving_now x h = elim (cases_Bool (has_host x.away h)) [
  | inl e ↦ subst (λ (b : Bool). In h (if b then x else record x { away = x.away ++ h ∷ [] }).away) (sym e)
      (has_in x.away h e)
  | inr e ↦ subst (λ (b : Bool). In h (if b then x else record x { away = x.away ++ h ∷ [] }).away) (sym e)
      (in_end h x.away)
]
