-- A way to one of 64 anodes has fewer than 64 entries.
use Rattle.std.proofs.Common.{◌≡◌, ◌≤◌, ℕ, zero, suc, ◌+◌, ◌-◌, List, [], ◌∷◌, inl, inr, refl, sym, ◌∙◌, ap, arith}
use Rattle.std.specs.Prelude.{Bool, true, false, cond, ◌&&◌, ◌||◌, ◌==◌}
use Rattle.std.specs.List.{list_any, AllByRecursion}
use Rattle.std.proofs.lemmas.Bool.{and_parts, or_cases, or_parts, or_left, or_right, cases_Bool, false≢true}
use Rattle.disk_image.specs.Joined.{total}
use Rattle.disk_image.specs.Reach.{is_within, is_reached}
use Rattle.disk_image.specs.declared.found.Link.{Link}
use Rattle.disk_image_laws.proofs.Sums.{total_one, total_less, total_most}

pub unfolded : (links : List Link) (n anode : ℕ) → is_within links (suc n) anode ≡ (is_within links n anode || list_any (λ link. (link.to == anode) && is_within links n link.from) links)
unfolding is_within
unfolded links n anode = refl

-- an element that passes the first of two tests, and not the second, where the first is passed by some and the second by none
pub any_new : (P : Link → Type 0) (a b : Link → Bool) (links : List Link) → AllByRecursion P links → list_any a links ≡ true → list_any b links ≡ false
    → (link : Link) × P link × (a link ≡ true) × (b link ≡ false)
any_new P a b [] all passed failed = absurd (false≢true passed)
any_new P a b (link ∷ links) all passed failed =
    let parts = or_parts (b link) (list_any b links) failed in
    elim (or_cases (a link) (list_any a links) passed) [
      | inl here ↦ (link, all.0, here, parts.0)
      | inr there ↦ any_new P a b links all.1 there parts.1
    ]

none_of : (links : List Link) → list_any (λ link. false) links ≡ false
none_of [] = refl
none_of (link ∷ links) = none_of links

pub any_one : (P : Link → Type 0) (a : Link → Bool) (links : List Link) → AllByRecursion P links → list_any a links ≡ true
    → (link : Link) × P link × (a link ≡ true)
any_one P a links all passed = let found = any_new P a (λ link. false) links all passed (none_of links) in (found.0, found.1, found.2)

abbrev pub FromAnode : Link → Type 0
FromAnode link = (1 ≤ link.from) × (link.from ≤ 64)

module _ (links : List Link) (from : AllByRecursion FromAnode links) where
  abbrev in_level : ℕ → ℕ → ℕ
  in_level n i = cond (is_within links n (i + 1)) 1 0

  abbrev size : ℕ → ℕ
  size n = total (in_level n) 64

  few : (n i : ℕ) → in_level n i ≤ 1
  few n i = by (is_within links n (i + 1))
    where
      by : (b : Bool) → cond b 1 0 ≤ 1
      by true = omega arith
      by false = omega arith

  grows : (n i : ℕ) → in_level n i ≤ in_level (suc n) i
  grows n i = elim (cases_Bool (is_within links n (i + 1))) [
    | inl is ↦
        let next = unfolded links n (i + 1) ∙ or_left (is_within links n (i + 1)) _ is in
        let a : in_level n i ≡ 1 = ap (λ b. cond b 1 0) is in
        let b : in_level (suc n) i ≡ 1 = ap (λ b. cond b 1 0) next in
        omega (arith, a, b)
    | inr not_so ↦ let a : in_level n i ≡ 0 = ap (λ b. cond b 1 0) not_so in omega (arith, a)
  ]

  abbrev IsNew : ℕ → ℕ → Type 0
  IsNew zero x = is_within links zero x ≡ true
  IsNew (suc n) x = (is_within links (suc n) x ≡ true) × (is_within links n x ≡ false)

  abbrev leads_within : ℕ → ℕ → Link → Bool
  leads_within n x link = (link.to == x) && is_within links n link.from

  -- what is new leads from what was new before
  before : (n x : ℕ) → IsNew (suc n) x → (link : Link) × FromAnode link × IsNew n link.from
  before n x new = by n (sym (λ i. new.1 i || list_any (leads_within n x) links) ∙ sym (unfolded links n x) ∙ new.0) new.1
    where
      by : (m : ℕ) → list_any (leads_within m x) links ≡ true → is_within links m x ≡ false → (link : Link) × FromAnode link × IsNew m link.from
      by zero any not_yet =
          let found = any_one FromAnode (leads_within zero x) links from any in
          (found.0, found.1, (and_parts (found.0.to == x) (is_within links zero found.0.from) found.2).1)
      by (suc m) any not_yet =
          let none = (or_parts (is_within links m x) (list_any (leads_within m x) links) (sym (unfolded links m x) ∙ not_yet)).1 in
          let found = any_new FromAnode (leads_within (suc m) x) (leads_within m x) links from any none in
          let parts = and_parts (found.0.to == x) (is_within links (suc m) found.0.from) found.2 in
          (found.0, found.1, (parts.1, (λ i. sym parts.0 i && is_within links m found.0.from) ∙ found.3))

  levels : (n x : ℕ) → 1 ≤ x → x ≤ 64 → IsNew n x → n + 1 ≤ size n
  levels zero x some few_ones new =
      let e : x - 1 + 1 ≡ x = omega (arith, some) in
      let is : in_level zero (x - 1) ≡ 1 = ap (λ b. cond b 1 0) (ap (is_within links zero) e ∙ new) in
      let a = total_one (in_level zero) 64 (x - 1) (omega (arith, some, few_ones)) in
      omega (arith, is, a)
  levels (suc n) x some few_ones new =
      let one = before n x new in
      let rest = levels n one.0.from one.1.0 one.1.1 one.2 in
      let e : x - 1 + 1 ≡ x = omega (arith, some) in
      let old : in_level n (x - 1) ≡ 0 = ap (λ b. cond b 1 0) (ap (is_within links n) e ∙ new.1) in
      let now : in_level (suc n) (x - 1) ≡ 1 = ap (λ b. cond b 1 0) (ap (is_within links (suc n)) e ∙ new.0) in
      let a = total_less (in_level n) (in_level (suc n)) 64 (x - 1) (grows n) (omega (arith, some, few_ones)) (omega (arith, old, now)) in
      omega (arith, a, rest)

  -- what an entry of a reached directory leads to is reached
  pub reached_next : (x : ℕ) → 1 ≤ x → x ≤ 64 → list_any (λ link. (link.to == x) && is_reached links link.from) links ≡ true → is_reached links x ≡ true
  reached_next x some few_ones any = elim (cases_Bool (is_within links 64 x)) [
    | inl is ↦ is
    | inr not_so ↦
        let now = unfolded links 64 x ∙ or_right (is_within links 64 x) (list_any (leads_within 64 x) links) any in
        let a = levels (suc 64) x some few_ones (now, not_so) in
        let b = total_most (in_level (suc 64)) 64 (few (suc 64)) in
        absurd (omega (arith, a, b))
  ]
