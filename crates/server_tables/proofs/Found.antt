-- Lists without an element that was found.
use Rattle.std.proofs.Common.{◌≡◌, ℕ, ◌<◌, suc, zero, Bool, false, not, List, [], ◌∷◌, ◌++◌, length, take, drop}
use Rattle.std.proofs.Common.{get_or, Some, None, inl, inr, refl, sym, ◌∙◌, ap, subst, arith}
use Rattle.std.specs.Prelude.{nat_lt, remove, slice_get}
use Rattle.std.specs.List.{filter, find, position, position_or_len}
use Rattle.std.proofs.lemmas.Bool.{cases_Bool, ltb-true, ltb-false}
use Rattle.std.proofs.lemmas.List.{take-append-drop}
use Rattle.std.proofs.lemmas.List.Elements.{filter-append}
use Rattle.std.proofs.lemmas.List.Folds.{find_at}
use Rattle.std.proofs.lemmas.List.Quantifiers.{position-Some}
use Rattle.std.proofs.lemmas.Option.{slice_get_past, slice_get-get_or}
use Rattle.std.proofs.Math.Seq.{drop-cons}
use Rattle.run_rules.specs.Past.{In}

-- where none is found, each fails the test
none_found : {X : Type 0} (p : X → Bool) (xs : List X) → find p xs ≡ None → filter (λ x. not (p x)) xs ≡ xs
none_found p [] e = refl
none_found p (x ∷ xs) e =
    elim (cases_Bool (p x)) [
      | inl passes ↦ absurd (let f = rw passes at e in cc)
      | inr fails ↦ rw fails (ap (λ ys. x ∷ ys) (none_found p xs (rw fails at e)))
    ]

-- no place is told where none is found
place_none : {X : Type 0} (p : X → Bool) (xs : List X) → position p xs ≡ None → find p xs ≡ None
place_none p xs e =
    elim (cases_Bool (nat_lt (position_or_len p xs) (length xs))) [
      | inl passes ↦ absurd (let f = rw passes at e in cc)
      | inr fails ↦ find_at p xs ∙ slice_get_past xs (position_or_len p xs) (ltb-false (position_or_len p xs)
          (length xs) fails)
    ]

same_some : {X : Type 0} (x y : X) → Some x ≡ Some y → x ≡ y
same_some x y e = cc

-- the place that is told is that of the one that is found
place_some : {X : Type 0} (p : X → Bool) (xs : List X) (i : ℕ) → position p xs ≡ Some i → position_or_len p xs ≡ i
place_some p xs i e =
    elim (cases_Bool (nat_lt (position_or_len p xs) (length xs))) [
      | inl passes ↦ same_some (position_or_len p xs) i (rw passes at e)
      | inr fails ↦ absurd (let f = rw fails at e in cc)
    ]

pub found_at : {X : Type 0} (p : X → Bool) (xs : List X) (i : ℕ) (x : X) → position p xs ≡ Some i → x ≡ get_or xs i x
    → find p xs ≡ Some x
found_at p xs i x e is =
    let within = (position-Some p xs i x e).0 in
    find_at p xs ∙ ap (λ n. slice_get xs n) (place_some p xs i e) ∙ slice_get-get_or xs i x within ∙ ap Some (sym is)

-- that place is one of the list's
pub place_within : {X : Type 0} (p : X → Bool) (xs : List X) (i : ℕ) → position p xs ≡ Some i → i < length xs
place_within p xs i e =
    elim (cases_Bool (nat_lt (position_or_len p xs) (length xs))) [
      | inl passes ↦ let l = ltb-true (position_or_len p xs) (length xs) passes in
          subst (λ (n : ℕ). n < length xs) (place_some p xs i e) l
      | inr fails ↦ absurd (let f = rw fails at e in cc)
    ]

pub none_at : {X : Type 0} (p : X → Bool) (xs : List X) → position p xs ≡ None
    → (find p xs ≡ None) × (filter (λ x. not (p x)) xs ≡ xs)
none_at p xs e = (place_none p xs e, none_found p xs (place_none p xs e))

one_out : {X : Type 0} (q : X → Bool) (x : X) (xs : List X) → q x ≡ false → filter q (x ∷ xs) ≡ filter q xs
one_out q x xs fails = rw fails refl

-- without the one that is found the same pass
pub left_at : {X : Type 0} (p : X → Bool) (xs : List X) (i : ℕ) (d : X) → position p xs ≡ Some i
    → filter (λ x. not (p x)) (remove xs i) ≡ filter (λ x. not (p x)) xs
left_at {X} p xs i d e =
    let q = λ (x : X). not (p x) in
    let h = position-Some p xs i d e in
    let x = get_or xs i d in
    filter-append q (take i xs) (drop (suc i) xs)
    ∙ ap (λ ys. filter q (take i xs) ++ ys) (sym (one_out q x (drop (suc i) xs) (ap not h.1)))
    ∙ ap (λ ys. filter q (take i xs) ++ filter q ys) (sym (drop-cons xs i d h.0))
    ∙ sym (filter-append q (take i xs) (drop i xs))
    ∙ ap (filter q) (take-append-drop i xs)

-- an element stands in its list
pub in_at : {X : Type 0} (xs : List X) (i : ℕ) (x : X) → i < length xs → x ≡ get_or xs i x → In x xs
in_at [] i x l e = absurd (omega arith)
in_at (y ∷ ys) zero x l e = inl e
in_at (y ∷ ys) (suc i) x l e = inr (in_at ys i x (omega arith) e)
