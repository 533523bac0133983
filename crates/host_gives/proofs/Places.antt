-- The place of the first element that passes a test.
use Rattle.std.proofs.Common.{◌≡◌, ℕ, suc, ◌+◌, ◌≤◌, ◌<◌, Bool, true, false, not, cond, List, [], ◌∷◌, ◌++◌, length, take, drop, get_or, Some, None, nat_lt, refl, ap, ◌∙◌, arith, rules}
use Rattle.std.specs.List.{find, position, prefix_len, remove, before_first, after_first}
use Rattle.std.proofs.lemmas.Bool.{cases_Bool}
use Rattle.std.proofs.lemmas.Grind.{common_steps}

-- the place of the first element that passes, or the length
abbrev pub place : {X : Type 0} → (X → Bool) → List X → ℕ
place p xs = prefix_len (λ x. not (p x)) xs

found_there : {X : Type 0} (p : X → Bool) (xs : List X) (x : X) → place p xs < length xs →
    x ≡ get_or xs (place p xs) x → find p xs ≡ Some x
found_there p [] x lt e = absurd (omega (arith, lt))
found_there p (y ∷ ys) x lt e = grind (arith, common_steps, cases_Bool (p y), found_there p ys x)

none_there : {X : Type 0} (p : X → Bool) (xs : List X) → length xs ≤ place p xs → find p xs ≡ None
none_there p [] h = refl
none_there p (y ∷ ys) h = grind (arith, common_steps, cases_Bool (p y), none_there p ys)

module _ {X : Type 0} (p : X → Bool) (xs : List X) where
  pub at_place : (i : ℕ) → position p xs ≡ Some i → (place p xs < length xs) × (i ≡ place p xs)
  at_place i h = by_test (nat_lt (place p xs) (length xs)) refl h
    where
      by_test : (b : Bool) → nat_lt (place p xs) (length xs) ≡ b → cond b (Some (place p xs)) None ≡ Some i →
          (place p xs < length xs) × (i ≡ place p xs)
      by_test true e k = grind (arith, common_steps, e, k)
      by_test false e k = absurd (search (rules, k))

  pub at_none : position p xs ≡ None → length xs ≤ place p xs
  at_none h = by_test (nat_lt (place p xs) (length xs)) refl h
    where
      by_test : (b : Bool) → nat_lt (place p xs) (length xs) ≡ b → cond b (Some (place p xs)) None ≡ None →
          length xs ≤ place p xs
      by_test true e k = absurd (search (rules, k))
      by_test false e k = grind (arith, common_steps, e)

  -- what is found where something stands there, and where nothing does
  pub found_at : (i : ℕ) (x : X) → position p xs ≡ Some i → x ≡ get_or xs i x → find p xs ≡ Some x
  found_at i x h e =
      let k = at_place i h in found_there p xs x k.0 (e ∙ ap (λ n. get_or xs n x) k.1)

  pub found_nowhere : position p xs ≡ None → find p xs ≡ None
  found_nowhere h = none_there p xs (at_none h)

  -- what is left without the element
  pub left_without : (i : ℕ) → position p xs ≡ Some i → remove xs i ≡ before_first p xs ++ after_first p xs
  left_without i h =
      let k = at_place i h in
      let same : suc (place p xs) ≡ place p xs + 1 = omega arith in
      ap (remove xs) k.1 ∙ ap (λ n. take (place p xs) xs ++ drop n xs) same
