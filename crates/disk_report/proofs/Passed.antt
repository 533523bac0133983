-- The disks that a check has passed.
use Rattle.std.proofs.Common.{◌≡◌, ◌<◌, ◌≤◌, ◌+◌, ◌⊎◌, ℕ, zero, suc, List, [], ◌∷◌, ◌++◌, take, map, length, slice_get, Some, inl, inr, refl, sym, subst, ap, ◌∙◌, arith}
use Rattle.std.proofs.Math.ListN.{set}
use Rattle.std.proofs.lemmas.Option.{same_Some}
use Rattle.std.proofs.lemmas.Bool.{cases_lt}
use Rattle.std.proofs.lemmas.List.{map-append}
use Rattle.base_types.specs.Crash.{IsQuiet}
use Rattle.base_types.specs.View.{View}
use Rattle.disk_check.specs.declared.fault.CheckRefused.{CheckRefused}
use Rattle.disk_check.specs.declared.fault.CheckRefused.TheVariants.{Failed}
use Rattle.disk_report.specs.Disks.{AreQuiet, IsFailing}
use Rattle.disk_report.specs.Report.{FailsTwice}
use Rattle.disk_report.specs.declared.report.Report.{Report}

-- the first k disks were looked at, and the others weren't called
pub record Passed {D : Type 0} (view : D → View) (k : ℕ) (old new : List D) : Type 0 where
  pub count : length new ≡ length old
  pub seen : (j : ℕ) (before after : D) → j < k → slice_get old j ≡ Some before → slice_get new j ≡ Some after → IsQuiet (view before) (view after)
  pub rest : (j : ℕ) → k ≤ j → slice_get new j ≡ slice_get old j

pub none_passed : {D : Type 0} (view : D → View) (disks : List D) → Passed view 0 disks disks
none_passed view disks = record { count = refl; seen = λ j before after lt. absurd (omega (arith, lt)); rest = λ j le. refl }

-- an element that is put into a list, and the others
get_same : {X : Type 0} (xs : List X) (i : ℕ) (y : X) → i < length xs → slice_get (set xs i y) i ≡ Some y
get_same [] i y lt = absurd (omega (arith, lt))
get_same (x ∷ xs) zero y lt = refl
get_same (x ∷ xs) (suc i) y lt = get_same xs i y (omega (arith, lt))

get_other : {X : Type 0} (xs : List X) (i j : ℕ) (y : X) → (j ≡ i → ⊥) → slice_get (set xs i y) j ≡ slice_get xs j
get_other [] i j y ne = refl
get_other (x ∷ xs) zero zero y ne = absurd (ne refl)
get_other (x ∷ xs) zero (suc j) y ne = refl
get_other (x ∷ xs) (suc i) zero y ne = refl
get_other (x ∷ xs) (suc i) (suc j) y ne = get_other xs i j y (λ e. ne (ap suc e))

size_kept : {X : Type 0} (xs : List X) (i : ℕ) (y : X) → length (set xs i y) ≡ length xs
size_kept [] i y = refl
size_kept (x ∷ xs) zero y = refl
size_kept (x ∷ xs) (suc i) y = ap suc (size_kept xs i y)

-- one more is looked at
quiet_here : {D : Type 0} (view : D → View) (k : ℕ) (old now : List D) (disk after a b : D) → k < length now → Passed view k old now → slice_get now k ≡ Some disk → IsQuiet (view disk) (view after) → slice_get old k ≡ Some a → slice_get (set now k after) k ≡ Some b → IsQuiet (view a) (view b)
quiet_here view k old now disk after a b lt passed at quiet was is =
    let this : disk ≡ a = same_Some disk a (sym at ∙ passed.rest k (omega arith) ∙ was) in
    let that : after ≡ b = same_Some after b (sym (get_same now k after lt) ∙ is) in
    subst (λ y. IsQuiet (view a) (view y)) that (subst (λ x. IsQuiet (view x) (view after)) this quiet)

quiet_by : {D : Type 0} (view : D → View) (k : ℕ) (old now : List D) (disk after : D) → k < length now → Passed view k old now → slice_get now k ≡ Some disk → IsQuiet (view disk) (view after) →
    (j : ℕ) (a b : D) → ((j < k) ⊎ (k ≤ j)) → j < k + 1 → slice_get old j ≡ Some a → slice_get (set now k after) j ≡ Some b → IsQuiet (view a) (view b)
quiet_by view k old now disk after lt passed at quiet j a b (inl less) below was is = passed.seen j a b less was (sym (get_other now k j after (λ e. omega (arith, less, e))) ∙ is)
quiet_by view k old now disk after lt passed at quiet j a b (inr more) below was is =
    let e : j ≡ k = omega (arith, more, below) in
    quiet_here view k old now disk after a b lt passed at quiet (subst (λ i. slice_get old i ≡ Some a) e was) (subst (λ i. slice_get (set now k after) i ≡ Some b) e is)

pub one_passed : {D : Type 0} (view : D → View) (k : ℕ) (old now : List D) (disk after : D) → k < length now → Passed view k old now → slice_get now k ≡ Some disk → IsQuiet (view disk) (view after) → Passed view (k + 1) old (set now k after)
one_passed view k old now disk after lt passed at quiet = record {
  count = size_kept now k after ∙ passed.count;
  seen = λ j a b below was is. quiet_by view k old now disk after lt passed at quiet j a b (cases_lt j k) below was is;
  rest = λ j le. get_other now k j after (λ e. omega (arith, le, e)) ∙ passed.rest j (omega (arith, le));
}

-- a disk that isn't called is as it was
quiet_same : (view : View) → IsQuiet view view
quiet_same view = record { image = refl; later = omega arith; now = λ c left. left; since = λ t c le left. left; kept = λ t c le left. left }

-- no byte of any disk changed
quiet_at : {D : Type 0} (view : D → View) (k : ℕ) (old new : List D) → Passed view k old new → (j : ℕ) (a b : D) → ((j < k) ⊎ (k ≤ j)) → slice_get old j ≡ Some a → slice_get new j ≡ Some b → IsQuiet (view a) (view b)
quiet_at view k old new passed j a b (inl less) was is = passed.seen j a b less was is
quiet_at view k old new passed j a b (inr more) was is = subst (λ y. IsQuiet (view a) (view y)) (same_Some a b (sym was ∙ sym (passed.rest j more) ∙ is)) (quiet_same (view a))

pub passed_quiet : {D : Type 0} (view : D → View) (k : ℕ) (old new : List D) → Passed view k old new → AreQuiet view old new
passed_quiet view k old new passed = record { count = passed.count; each = λ j a b was is. quiet_at view k old new passed j a b (cases_lt j k) was is }

-- the disk that fails
pub is_failing : {D : Type 0} (view : D → View) (k : ℕ) (old now : List D) (disk after : D) (why : CheckRefused) → why ≡ Failed → FailsTwice why (view disk) (view after) → k < length now → Passed view k old now → slice_get now k ≡ Some disk →
    IsFailing view old (set now k after) (k + 1)
is_failing view k old now disk after why is fails lt passed at =
    let twice : FailsTwice Failed (view disk) (view after) = subst (λ (e : CheckRefused). FailsTwice e (view disk) (view after)) is fails in
    record { k = k; numbered = refl; before = disk; after = after; was = sym (passed.rest k (omega arith)) ∙ at; is = get_same now k after lt; twice = twice.0; last = twice.1 }

-- one more report
take_next : {X : Type 0} (xs : List X) (k : ℕ) (x : X) → slice_get xs k ≡ Some x → take (suc k) xs ≡ take k xs ++ x ∷ []
take_next [] k x e = cc
take_next (y ∷ xs) zero x e = ap (λ z. z ∷ []) (same_Some y x e)
take_next (y ∷ xs) (suc k) x e = ap (λ l. y ∷ l) (take_next xs k x e)

pub reports_more : {D : Type 0} (found : D → Report) (view : D → View) (k : ℕ) (old now : List D) (disk : D) (reports more : List Report) (report : Report) → Passed view k old now → slice_get now k ≡ Some disk →
    reports ≡ map found (take k old) → report ≡ found disk → more ≡ reports ++ report ∷ [] → more ≡ map found (take (k + 1) old)
reports_more found view k old now disk reports more report passed at are is e =
    let next : take (suc k) old ≡ take k old ++ disk ∷ [] = take_next old k disk (sym (passed.rest k (omega arith)) ∙ at) in
    let number : suc k ≡ k + 1 = omega arith in
    let all : map found (take (suc k) old) ≡ map found (take k old) ++ found disk ∷ [] = ap (map found) next ∙ map-append found (take k old) (disk ∷ []) in
    subst (λ i. more ≡ map found (take i old)) number (e ∙ ap (λ l. l ++ report ∷ []) are ∙ ap (λ r. map found (take k old) ++ r ∷ []) is ∙ sym all)
