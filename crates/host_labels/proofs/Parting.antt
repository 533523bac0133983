-- A list without the one element that passes a test.
use Rattle.std.proofs.Common.{◌≡◌, ℕ, suc, ◌+◌, ◌≤◌, ◌<◌, Bool, true, false, not, cond, List, [], ◌∷◌, length, get_or, Some, None, nat_lt, refl, sym, ap, ◌∙◌, arith, rules}
use Rattle.std.specs.List.{find, filter, position, prefix_len, remove}
use Rattle.std.proofs.lemmas.Bool.{cases_Bool}
use Rattle.std.proofs.lemmas.Grind.{common_steps}

-- the place of the first element that passes, or the length
abbrev pub place : {X : Type 0} → (X → Bool) → List X → ℕ
place p xs = prefix_len (λ x. not (p x)) xs

-- where none passes, all stay
pub all_kept : {X : Type 0} (p : X → Bool) (xs : List X) → length (filter p xs) ≡ 0 →
    filter (λ x. not (p x)) xs ≡ xs
all_kept p [] h = refl
all_kept p (x ∷ xs) h = grind (arith, cases_Bool (p x), all_kept p xs)

-- where one passes at most, the rest is what doesn't
pub rest_kept : {X : Type 0} (p : X → Bool) (xs : List X) → length (filter p xs) ≤ 1 →
    remove xs (place p xs) ≡ filter (λ x. not (p x)) xs
rest_kept p [] h = refl
rest_kept p (x ∷ xs) h =
    elim (p x) as (λ t. length (cond t (x ∷ filter p xs) (filter p xs)) ≤ 1 →
    remove (x ∷ xs) (cond (not t) (1 + place p xs) 0)
    ≡ cond (not t) (x ∷ filter (λ x. not (p x)) xs) (filter (λ x. not (p x)) xs)) [
      | true ↦ λ k. sym (all_kept p xs (omega (arith, k)))
      | false ↦ λ k.
          let same : 1 + place p xs ≡ suc (place p xs) = omega arith in
          ap (remove (x ∷ xs)) same ∙ ap (λ ys. x ∷ ys) (rest_kept p xs k)
    ] h

pub found_there : {X : Type 0} (p : X → Bool) (xs : List X) (x : X) → place p xs < length xs →
    x ≡ get_or xs (place p xs) x → Some x ≡ find p xs
found_there p [] x lt e = absurd (omega (arith, lt))
found_there p (y ∷ ys) x lt e = grind (arith, common_steps, cases_Bool (p y), found_there p ys x)

pub none_there : {X : Type 0} (p : X → Bool) (xs : List X) → length xs ≤ place p xs →
    (None ≡ find p xs) × (filter (λ x. not (p x)) xs ≡ xs)
none_there p [] h = (refl, refl)
none_there p (y ∷ ys) h = grind (arith, common_steps, cases_Bool (p y), none_there p ys)

module _ {X : Type 0} (p : X → Bool) (xs : List X) where
  -- where the place is known
  pub at_place : (i : ℕ) → position p xs ≡ Some i → (place p xs < length xs) × (i ≡ place p xs)
  at_place i h = by_test (nat_lt (place p xs) (length xs)) refl h
    where
      by_test : (b : Bool) → nat_lt (place p xs) (length xs) ≡ b → cond b (Some (place p xs)) None ≡ Some i →
          (place p xs < length xs) × (i ≡ place p xs)
      by_test true e k = grind (arith, common_steps, e, k)
      by_test false e k = absurd (search (rules, k))

  at_none : position p xs ≡ None → length xs ≤ place p xs
  at_none h = by_test (nat_lt (place p xs) (length xs)) refl h
    where
      by_test : (b : Bool) → nat_lt (place p xs) (length xs) ≡ b → cond b (Some (place p xs)) None ≡ None →
          length xs ≤ place p xs
      by_test true e k = absurd (search (rules, k))
      by_test false e k = grind (arith, common_steps, e)

  -- what is found and what is left, where something is found and where nothing is
  pub taken : (i : ℕ) (x : X) → position p xs ≡ Some i → x ≡ get_or xs i x → length (filter p xs) ≤ 1 →
      (Some x ≡ find p xs) × (remove xs i ≡ filter (λ x. not (p x)) xs)
  taken i x h e once =
      let k = at_place i h in
      (found_there p xs x k.0 (e ∙ ap (λ n. get_or xs n x) k.1), ap (remove xs) k.1 ∙ rest_kept p xs once)

  pub untaken : position p xs ≡ None → (None ≡ find p xs) × (filter (λ x. not (p x)) xs ≡ xs)
  untaken h = none_there p xs (at_none h)
