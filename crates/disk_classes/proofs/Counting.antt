-- The entries that members need, and the pages that they put.
use Rattle.std.proofs.Common.{◌≡◌, ◌≢◌, ◌<◌, ◌≤◌, ℕ, zero, suc, ◌+◌, ◌*◌, List, [], ◌∷◌, length, refl, sym, ◌∙◌, ap, arith, get_or, ◌⊎◌, inl, inr, take, add-one}
use Rattle.std.specs.Prelude.{Bool, true, false, ◌==◌, if◌then◌else◌, sum, sum_by, map}
use Rattle.std.proofs.lemmas.List.{same_lists, get_or-map, length-map, take_all, get_or_past}
use Rattle.std.proofs.lemmas.Bool.{cases_lt}
use Rattle.std.proofs.lemmas.List.Sums.{sum_by-cons, sum-map, sum_by_more}
use Rattle.disk_classes.specs.Notes.{vacant, noted_at, entries_of, needed_by, needed_in, pages_by, pages_in_class, vacated, needs_below, notes_in}
use Rattle.disk_classes.specs.declared.member.Noted.{Noted as Kept}
use Rattle.disk_classes.specs.declared.member.Standing.{Standing}
use Rattle.disk_classes.specs.declared.member.Standing.TheVariants.{Vacant, Open, Ended}
use Rattle.disk_classes.proofs.Lists.{test_other}

-- members that need the same each need the same in all
pub needed_same : (old new : List Kept) → length new ≡ length old → ((m : ℕ) → needed_by (noted_at new m) ≡ needed_by (noted_at old m)) → needed_in new ≡ needed_in old
needed_same old new size same =
    sym (sum-map needed_by new)
    ∙ ap sum (same_lists (map needed_by new) (map needed_by old) (length-map new needed_by ∙ size ∙ sym (length-map old needed_by)) (λ k d lt. each k d (let e = length-map new needed_by in omega (arith, lt, e))))
    ∙ sum-map needed_by old
  where
    each : (k d : ℕ) → k < length new → get_or (map needed_by new) k d ≡ get_or (map needed_by old) k d
    each k d lt = get_or-map needed_by new k (vacant k) d lt ∙ same k ∙ sym (get_or-map needed_by old k (vacant k) d (omega (arith, lt, size)))

-- what the members of a class need
abbrev pub cost_by : ℕ → Kept → ℕ
cost_by class n = if n.class == class then needed_by n else 0

abbrev pub cost_of : ℕ → List Kept → ℕ
cost_of class ms = sum_by (cost_by class) ms

cost_one : (class number : ℕ) (n : Kept) → needed_by (if n.class == class then vacant number else n) + cost_by class n ≡ needed_by n
cost_one class number n = by (n.class == class)
  where
    by : (b : Bool) → needed_by (if b then vacant number else n) + (if b then needed_by n else 0) ≡ needed_by n
    by true = omega arith
    by false = omega arith

pub cost_vacated : (class number : ℕ) (ms : List Kept) → needed_in (vacated class number ms) + cost_of class ms ≡ needed_in ms
cost_vacated class number [] = refl
cost_vacated class number (n ∷ ms) =
    let rest = cost_vacated class (number + 1) ms in
    let a = sum_by-cons needed_by (if n.class == class then vacant number else n) (vacated class (number + 1) ms) in
    let b = sum_by-cons (cost_by class) n ms in
    let d = sum_by-cons needed_by n ms in
    let one = cost_one class number n in
    omega (arith, rest, a, b, d, one)

-- a member needs an entry for its end, and two for each page
needed_least : (s : Standing) (limit pages : ℕ) → pages ≤ limit → (s ≡ Vacant → pages ≡ 0) → 2 * pages ≤ entries_of s limit
needed_least Vacant limit pages le none = let e = none refl in omega (arith, e)
needed_least Open limit pages le none = omega (arith, le)
needed_least Ended limit pages le none = omega (arith, le)

needed_live : (s : Standing) (limit pages : ℕ) → pages ≤ limit → s ≢ Vacant → 2 * pages + 1 ≤ entries_of s limit
needed_live Vacant limit pages le live = absurd (live refl)
needed_live Open limit pages le live = omega (arith, le)
needed_live Ended limit pages le live = omega (arith, le)

abbrev pub IsWithin : Kept → Type 0
IsWithin n = (length n.pages ≤ n.limit) × (n.standing ≡ Vacant → length n.pages ≡ 0)

cost_least : (class : ℕ) (n : Kept) → IsWithin n → 2 * pages_by class n ≤ cost_by class n
cost_least class n within = by (n.class == class)
  where
    by : (b : Bool) → 2 * (if b then length n.pages else 0) ≤ (if b then needed_by n else 0)
    by true = needed_least n.standing n.limit (length n.pages) within.0 within.1
    by false = omega arith

cost_live : (class : ℕ) (n : Kept) → IsWithin n → n.class ≡ class → n.standing ≢ Vacant → 2 * pages_by class n + 1 ≤ cost_by class n
cost_live class n within is live = by (n.class == class) refl
  where
    by : (b : Bool) → (n.class == class) ≡ b → 2 * (if b then length n.pages else 0) + 1 ≤ (if b then needed_by n else 0)
    by true e = needed_live n.standing n.limit (length n.pages) within.0 live
    by false e = absurd (test_other n.class class e is)

pub pages_least : (class : ℕ) (ms : List Kept) → ((k : ℕ) (d : Kept) → k < length ms → IsWithin (get_or ms k d)) → 2 * pages_in_class class ms ≤ cost_of class ms
pages_least class [] each = omega arith
pages_least class (n ∷ ms) each =
    let rest = pages_least class ms (λ k d lt. each (suc k) d (omega (arith, lt))) in
    let one = cost_least class n (each 0 n (omega arith)) in
    let a = sum_by-cons (pages_by class) n ms in
    let b = sum_by-cons (cost_by class) n ms in
    omega (arith, rest, one, a, b)

-- one more where there is such a member
pub pages_live : (class : ℕ) (ms : List Kept) (i : ℕ) (d : Kept) → ((k : ℕ) (d : Kept) → k < length ms → IsWithin (get_or ms k d)) → i < length ms → (get_or ms i d).class ≡ class → (get_or ms i d).standing ≢ Vacant
    → 2 * pages_in_class class ms + 1 ≤ cost_of class ms
pages_live class [] i d each lt is live = absurd (omega (arith, lt))
pages_live class (n ∷ ms) zero d each lt is live =
    let rest = pages_least class ms (λ k d lt. each (suc k) d (omega (arith, lt))) in
    let one = cost_live class n (each 0 n (omega arith)) is live in
    let a = sum_by-cons (pages_by class) n ms in
    let b = sum_by-cons (cost_by class) n ms in
    omega (arith, rest, one, a, b)
pages_live class (n ∷ ms) (suc i) d each lt is live =
    let rest = pages_live class ms i d (λ k d lt. each (suc k) d (omega (arith, lt))) (omega (arith, lt)) is live in
    let one = cost_least class n (each 0 n (omega arith)) in
    let a = sum_by-cons (pages_by class) n ms in
    let b = sum_by-cons (cost_by class) n ms in
    omega (arith, rest, one, a, b)

-- the notes tell what all need
needs_take : (ms : List Kept) (n : ℕ) → needed_in (take n ms) ≡ needs_below n (notes_in ms)
unfolding needs_below
needs_take ms zero = refl
needs_take ms (suc n) = by (cases_lt n (length ms)) (needs_take ms n)
  where
    by : (n < length ms) ⊎ (length ms ≤ n) → needed_in (take n ms) ≡ needs_below n (notes_in ms) → needed_in (take (suc n) ms) ≡ needs_below n (notes_in ms) + needed_by (noted_at ms n)
    by (inl lt) so_far =
        let e : needed_in (take (n + 1) ms) ≡ needed_in (take n ms) + needed_by (noted_at ms n) = sum_by_more needed_by ms n (vacant n) lt in
        let f : needed_in (take (n + 1) ms) ≡ needed_in (take (suc n) ms) = ap (λ (k : ℕ). needed_in (take k ms)) (add-one n) in
        omega (arith, e, f, so_far)
    by (inr le) so_far =
        let e : needed_in (take (suc n) ms) ≡ needed_in ms = ap needed_in (take_all (suc n) ms (omega (arith, le))) in
        let f : needed_in (take n ms) ≡ needed_in ms = ap needed_in (take_all n ms le) in
        let g : needed_by (noted_at ms n) ≡ 0 = ap needed_by (get_or_past ms n (vacant n) le) in
        omega (arith, e, f, g, so_far)

pub needs_all : (ms : List Kept) → length ms ≤ 2048 → needed_in ms ≡ needs_below 2048 (notes_in ms)
needs_all ms le = ap needed_in (sym (take_all 2048 ms le)) ∙ needs_take ms 2048
