-- Which body a message has, and whether a host is live: decided by the doings.
use Rattle.std.proofs.Common.{◌≡◌, ℕ, ◌⊎◌, ◌==◌, Bool, true, false, List, [], ◌∷◌, inl, inr, refl, sym, ap, ◌∙◌}
use Rattle.std.proofs.Common.{eqb-true}
use Rattle.std.proofs.lemmas.Bool.{eqb-false}
use Rattle.base_types.specs.declared.ids.FilesetId.{FilesetId}
use Rattle.base_types.specs.declared.ids.HostId.{HostId}
use Rattle.base_types.specs.declared.ids.ServerId.{ServerId}
use Rattle.message_types.specs.declared.giving.Give.{Give}
use Rattle.message_types.specs.declared.message.Body.{Body}
use Rattle.message_types.specs.declared.message.Body.TheVariants.{Hello, Fetch, Grant, Change, Done, Revoke, Returned}
use Rattle.message_types.specs.declared.message.Body.TheVariants.{Kept, GiveBack, Gone, Reclaim, Reclaimed, Restarted}
use Rattle.message_types.specs.declared.message.Body.TheVariants.{Down, Bye, NotHere, Ship, Shipped}
use Rattle.run_parts.proofs.Cells.{cases_host}
use Rattle.run_rules.specs.Doings.{Doing, HasGoneAway, HasGoneDown, Hears, Here, IsLive, Listed, Slot, TakesBye, epoch}
use Rattle.run_rules.specs.Doings.{slot_of}
use Rattle.run_rules.specs.Doings.Slot.{Absent, Arriving, Gone, Leaving, Writable}
use Rattle.run_rules.specs.Doings.Doing.{Admits, BeginsEpoch, Flushes, MakesWant, Moves, Reserves, Sent, Took}
use Rattle.run_rules.specs.Doings.Doing.{WritesDown}
use Rattle.run_rules.specs.Doings.Doing.{Gets, Puts}
use Rattle.run_rules.specs.Messages.{home}

-- it is one of these four, or none
abbrev pub tag : Body → ℕ
tag Hello = 1
tag Down = 2
tag Bye = 3
tag (GiveBack g) = 4
tag (Fetch x) = 0
tag (Grant x) = 0
tag (Change x) = 0
tag (Done x) = 0
tag (Revoke x) = 0
tag (Returned x) = 0
tag (Kept x) = 0
tag (Gone x) = 0
tag (Reclaim x) = 0
tag (Reclaimed x) = 0
tag Restarted = 0
tag (NotHere x) = 0
tag (Ship x) = 0
tag (Shipped x) = 0

differ : (a b : Body) → (tag a ≡ tag b → ⊥) → a ≡ b → ⊥
differ a b apart e = apart (ap tag e)

pub data Which (b : Body) : Type 0 where
  IsHello : b ≡ Hello → Which b
  IsDownOf : b ≡ Down → Which b
  IsBye : b ≡ Bye → Which b
  IsGive : (g : Give) → b ≡ GiveBack g → Which b
  IsOther : tag b ≡ 0 → Which b

pub which : (b : Body) → Which b
which Hello = IsHello refl
which Down = IsDownOf refl
which Bye = IsBye refl
which (GiveBack g) = IsGive g refl
which (Fetch x) = IsOther refl
which (Grant x) = IsOther refl
which (Change x) = IsOther refl
which (Done x) = IsOther refl
which (Revoke x) = IsOther refl
which (Returned x) = IsOther refl
which (Kept x) = IsOther refl
which (Gone x) = IsOther refl
which (Reclaim x) = IsOther refl
which (Reclaimed x) = IsOther refl
which Restarted = IsOther refl
which (NotHere x) = IsOther refl
which (Ship x) = IsOther refl
which (Shipped x) = IsOther refl

-- two bodies of different tags aren't one
pub two : (b c : Body) (n m : ℕ) → tag b ≡ n → tag c ≡ m → (n ≡ m → ⊥) → b ≡ c → ⊥
two b c n m p q apart e = apart (sym p ∙ (ap tag e ∙ q))

pub hello_tag : tag Hello ≡ 1
hello_tag = refl

pub down_tag : tag Down ≡ 2
down_tag = refl

pub bye_tag : tag Bye ≡ 3
bye_tag = refl

pub give_tag : (g : Give) → tag (GiveBack g) ≡ 4
give_tag g = refl

is_hello : (b : Body) → (b ≡ Hello) ⊎ (b ≡ Hello → ⊥)
is_hello b = by (which b)
  where
    by : Which b → (b ≡ Hello) ⊎ (b ≡ Hello → ⊥)
    by (IsHello e) = inl e
    by (IsDownOf e) = inr (two b Hello 2 1 (ap tag e) refl (λ p. cc))
    by (IsBye e) = inr (two b Hello 3 1 (ap tag e) refl (λ p. cc))
    by (IsGive g e) = inr (two b Hello 4 1 (ap tag e) refl (λ p. cc))
    by (IsOther e) = inr (two b Hello 0 1 e refl (λ p. cc))

pub is_down : (b : Body) → (b ≡ Down) ⊎ (b ≡ Down → ⊥)
is_down b = by (which b)
  where
    by : Which b → (b ≡ Down) ⊎ (b ≡ Down → ⊥)
    by (IsHello e) = inr (two b Down 1 2 (ap tag e) refl (λ p. cc))
    by (IsDownOf e) = inl e
    by (IsBye e) = inr (two b Down 3 2 (ap tag e) refl (λ p. cc))
    by (IsGive g e) = inr (two b Down 4 2 (ap tag e) refl (λ p. cc))
    by (IsOther e) = inr (two b Down 0 2 e refl (λ p. cc))

is_bye : (b : Body) → (b ≡ Bye) ⊎ (b ≡ Bye → ⊥)
is_bye b = by (which b)
  where
    by : Which b → (b ≡ Bye) ⊎ (b ≡ Bye → ⊥)
    by (IsHello e) = inr (two b Bye 1 3 (ap tag e) refl (λ p. cc))
    by (IsDownOf e) = inr (two b Bye 2 3 (ap tag e) refl (λ p. cc))
    by (IsBye e) = inl e
    by (IsGive g e) = inr (two b Bye 4 3 (ap tag e) refl (λ p. cc))
    by (IsOther e) = inr (two b Bye 0 3 e refl (λ p. cc))

pub is_give : (b : Body) → ((g : Give) × (b ≡ GiveBack g)) ⊎ ((g : Give) → b ≡ GiveBack g → ⊥)
is_give b = by (which b)
  where
    by : Which b → ((g : Give) × (b ≡ GiveBack g)) ⊎ ((g : Give) → b ≡ GiveBack g → ⊥)
    by (IsHello e) = inr (λ g. two b (GiveBack g) 1 4 (ap tag e) refl (λ p. cc))
    by (IsDownOf e) = inr (λ g. two b (GiveBack g) 2 4 (ap tag e) refl (λ p. cc))
    by (IsBye e) = inr (λ g. two b (GiveBack g) 3 4 (ap tag e) refl (λ p. cc))
    by (IsGive g e) = inl (g, e)
    by (IsOther e) = inr (λ g. two b (GiveBack g) 0 4 e refl (λ p. cc))

pub server_is : (a b : ServerId) → (a.0 == b.0) ≡ true → a ≡ b
server_is a b e = ap (λ (n : ℕ). record { 0 = n }) (eqb-true a.0 b.0 e)

pub cases_nat : (a b : ℕ) → (a ≡ b) ⊎ (a ≡ b → ⊥)
cases_nat a b = go (a == b) refl
  where
    go : (q : Bool) → (a == b) ≡ q → (a ≡ b) ⊎ (a ≡ b → ⊥)
    go true e = inl (eqb-true a b e)
    go false e = inr (eqb-false a b e)

-- a doing hears this from a host
module _ (target : Body) (same : (b : Body) → (b ≡ target) ⊎ (b ≡ target → ⊥)) where
  hears : (a : Doing) (h : HostId) → Hears a h target ⊎ (Hears a h target → ⊥)
  hears (Took k e n b) h = elim (cases_host k h) [
    | inr apart ↦ inr (λ q. apart (let r : Took k e n b ≡ Took h q.0 q.1 target = q.2 in cc))
    | inl one ↦ elim (same b) [
      | inl is ↦ inl (e, n, (λ i. Took (one i) e n (is i)))
      | inr non ↦ inr (λ q. non (let r : Took k e n b ≡ Took h q.0 q.1 target = q.2 in cc))
    ]
  ]
  hears (BeginsEpoch e) h = inr (λ q. let r : BeginsEpoch e ≡ Took h q.0 q.1 target = q.2 in cc)
  hears Flushes h = inr (λ q. let r : Flushes ≡ Took h q.0 q.1 target = q.2 in cc)
  hears (MakesWant w) h = inr (λ q. let r : MakesWant w ≡ Took h q.0 q.1 target = q.2 in cc)
  hears (Moves move) h = inr (λ q. let r : Moves move ≡ Took h q.0 q.1 target = q.2 in cc)
  hears (Gets from n b) h = inr (λ q. let r : Gets from n b ≡ Took h q.0 q.1 target = q.2 in cc)
  hears (Puts to n b) h = inr (λ q. let r : Puts to n b ≡ Took h q.0 q.1 target = q.2 in cc)
  hears (WritesDown w) h = inr (λ q. let r : WritesDown w ≡ Took h q.0 q.1 target = q.2 in cc)
  hears (Admits k ts) h = inr (λ q. let r : Admits k ts ≡ Took h q.0 q.1 target = q.2 in cc)
  hears (Sent k e n b) h = inr (λ q. let r : Sent k e n b ≡ Took h q.0 q.1 target = q.2 in cc)
  hears (Reserves ts) h = inr (λ q. let r : Reserves ts ≡ Took h q.0 q.1 target = q.2 in cc)

pub down : (S : List Doing) (h : HostId) → HasGoneDown S h ⊎ (HasGoneDown S h → ⊥)
down [] h = inr (λ q. elim q [ ])
down (a ∷ S) h = elim (hears Down is_down a h) [
  | inl now ↦ inl (inl now)
  | inr non ↦ elim (down S h) [
    | inl was ↦ inl (inr was)
    | inr never ↦ inr (λ q. elim q [ inl x ↦ non x | inr x ↦ never x ])
  ]
]

listed : (S : List Doing) (h : HostId) → Listed S h ⊎ (Listed S h → ⊥)
listed [] h = inr (λ q. elim q [ ])
listed (a ∷ S) h = elim (listed S h) [
  | inl old ↦ inl (inr old)
  | inr new ↦ elim (hears Hello is_hello a h) [
    | inr non ↦ inr (λ q. elim q [ inl x ↦ non x.0 | inr x ↦ new x ])
    | inl now ↦ elim (down S h) [
      | inl gone ↦ inr (λ q. elim q [ inl x ↦ x.2 gone | inr x ↦ new x ])
      | inr up ↦ inl (inl (now, new, up))
    ]
  ]
]

ends : (S : List Doing) (a : Doing) (h : HostId) → TakesBye S a h ⊎ (TakesBye S a h → ⊥)
ends S a h = elim (hears Bye is_bye a h) [
  | inr non ↦ inr (λ q. non (epoch S, q.0.0, q.0.1))
  | inl now ↦ elim (cases_nat now.0 (epoch S)) [
    | inr late ↦ inr (λ q. late (let r : Took h now.0 now.1 Bye ≡ Took h (epoch S) q.0.0 Bye = sym now.2 ∙ q.0.1 in cc))
    | inl is ↦ elim (listed S h) [
      | inr non ↦ inr (λ q. non q.1)
      | inl on ↦ elim (down S h) [
        | inl gone ↦ inr (λ q. q.2 gone)
        | inr up ↦ inl ((now.1, now.2 ∙ ap (λ e. Took h e now.1 Bye) is), on, up)
      ]
    ]
  ]
]

away : (S : List Doing) (h : HostId) → HasGoneAway S h ⊎ (HasGoneAway S h → ⊥)
away [] h = inr (λ q. elim q [ ])
away (a ∷ S) h = elim (away S h) [
  | inl was ↦ inl (inr was)
  | inr never ↦ elim (hears Down is_down a h) [
    | inl now ↦ inl (inl (inl now))
    | inr non ↦ elim (ends S a h) [
      | inl now ↦ inl (inl (inr now))
      | inr none ↦ inr (λ q. elim q [ inl x ↦ elim x [ inl y ↦ non y | inr y ↦ none y ] | inr x ↦ never x ])
    ]
  ]
]

pub live : (S : List Doing) (h : HostId) → IsLive S h ⊎ (IsLive S h → ⊥)
live S h = elim (listed S h) [
  | inr non ↦ inr (λ q. non q.0)
  | inl on ↦ elim (away S h) [
    | inl gone ↦ inr (λ q. q.1 gone)
    | inr up ↦ inl (on, up)
  ]
]

is_writable : (slot : Slot) (n : ℕ) → (slot ≡ Writable n) ⊎ (slot ≡ Writable n → ⊥)
is_writable (Writable m) n = elim (cases_nat m n) [
  | inl same ↦ inl (ap Writable same)
  | inr apart ↦ inr (λ q. apart (let same : m ≡ n = cc in same))
]
is_writable Absent n = inr (λ q. cc)
is_writable (Leaving m to ship) n = inr (λ q. cc)
is_writable (Arriving m from ship parts) n = inr (λ q. cc)
is_writable (Gone m to) n = inr (λ q. cc)

pub here : (v : ServerId) (S : List Doing) (fs : FilesetId) (n : ℕ) → Here v S fs n ⊎ (Here v S fs n → ⊥)
here v S fs n = is_writable (slot_of v S fs) n
