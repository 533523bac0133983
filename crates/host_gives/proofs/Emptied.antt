-- Messages in slots of which some are empty.
use Rattle.std.proofs.Common.{◌≡◌, ℕ, ◌<◌, ◌≤◌, suc, zero, ◌+◌, Bool, true, false, not, cond, ◌||◌, ◌==◌, List, [], ◌∷◌, ◌++◌}
use Rattle.std.proofs.Common.{length, get_or, Option, Some, None, is_some, refl, sym, ap, ◌∙◌, arith}
use Rattle.std.specs.Prelude.{slice_set}
use Rattle.std.specs.List.{filter, find, list_any}
use Rattle.std.specs.Option.{option_flatten}
use Rattle.message_types.specs.declared.message.Message.{Message}
use Rattle.host_gives.specs.Giving.{without}
use Rattle.host_gives.specs.Slots.{held_in, holds}
use Rattle.host_gives.proofs.Going.{differs}
use Rattle.host_gives.proofs.Places.{place}
use Rattle.host_gives.proofs.Staying.{first_behind, first_here}

pub held_more : (xs ys : List (Option Message)) → held_in (xs ++ ys) ≡ held_in xs ++ held_in ys
held_more [] ys = refl
held_more (None ∷ xs) ys = held_more xs ys
held_more (Some m ∷ xs) ys = ap (λ zs. m ∷ zs) (held_more xs ys)

pub held_all : (xs : List (Option Message)) → held_in (filter is_some xs) ≡ held_in xs
held_all [] = refl
held_all (None ∷ xs) = held_all xs
held_all (Some m ∷ xs) = ap (λ zs. m ∷ zs) (held_all xs)

pub none_held : (xs : List (Option Message)) → not (list_any is_some xs) ≡ (length (held_in xs) == 0)
none_held [] = refl
none_held (None ∷ xs) = none_held xs
none_held (Some m ∷ xs) = sym (differs (suc (length (held_in xs))) 0 (λ e. omega (arith, e)))

module _ (test : Message → Bool) where
  pub any_held : (xs : List (Option Message)) → list_any (holds test) xs ≡ list_any test (held_in xs)
  any_held [] = refl
  any_held (None ∷ xs) = any_held xs
  any_held (Some m ∷ xs) = ap (λ b. test m || b) (any_held xs)

  pub find_held : (xs : List (Option Message)) →
      option_flatten (find (holds test) xs) ≡ find test (held_in xs)
  find_held [] = refl
  find_held (None ∷ xs) = find_held xs
  find_held (Some m ∷ xs) =
      elim (test m) as (λ t. option_flatten (cond t (Some (Some m)) (find (holds test) xs))
      ≡ cond t (Some m) (find test (held_in xs))) [
        | true ↦ refl
        | false ↦ find_held xs
      ]

  there : (xs : List (Option Message)) → place (holds test) xs < length xs →
      (get_or xs (place (holds test) xs) None ≡ find test (held_in xs))
      × (held_in (slice_set xs (place (holds test) xs) None) ≡ without test (held_in xs))
  there [] lt = absurd (omega (arith, lt))
  there (None ∷ xs) lt =
      let same : 1 + place (holds test) xs ≡ suc (place (holds test) xs) = omega arith in
      let r = there xs (omega (arith, lt)) in (
        ap (λ n. get_or (None ∷ xs) n None) same ∙ r.0,
        ap (λ n. held_in (slice_set (None ∷ xs) n None)) same ∙ r.1,
      )
  there (Some m ∷ xs) lt =
      elim (test m) as (λ t. test m ≡ t → cond (not t) (1 + place (holds test) xs) 0 < suc (length xs) →
      (get_or (Some m ∷ xs) (cond (not t) (1 + place (holds test) xs) 0) None
      ≡ cond t (Some m) (find test (held_in xs)))
      × (held_in (slice_set (Some m ∷ xs) (cond (not t) (1 + place (holds test) xs) 0) None)
      ≡ without test (m ∷ held_in xs))) [
        | true ↦ λ e k. (refl, sym (first_here test m (held_in xs) e))
        | false ↦ λ e k.
            let same : 1 + place (holds test) xs ≡ suc (place (holds test) xs) = omega arith in
            let r = there xs (omega (arith, k)) in (
              ap (λ n. get_or (Some m ∷ xs) n None) same ∙ r.0,
              ap (λ n. held_in (slice_set (Some m ∷ xs) n None)) same ∙ ap (λ zs. m ∷ zs) r.1
                  ∙ sym (first_behind test m (held_in xs) e),
            )
      ] refl lt

  inside : (xs : List (Option Message)) (i : ℕ) (x : Option Message) → i < length xs → x ≡ get_or xs i x →
      x ≡ get_or xs i None
  inside [] i x lt e = absurd (omega (arith, lt))
  inside (y ∷ ys) zero x lt e = e
  inside (y ∷ ys) (suc i) x lt e = inside ys i x (omega (arith, lt)) e

  -- what is taken out of the first slot that passes, and what is left
  pub at_the_first : (xs : List (Option Message)) (i : ℕ) (x : Option Message) → i < length xs →
      i ≡ place (holds test) xs → x ≡ get_or xs i x →
      (x ≡ find test (held_in xs)) × (held_in (slice_set xs i None) ≡ without test (held_in xs))
  at_the_first xs i x low at is =
      let r = there xs (omega (arith, low, at)) in (
        inside xs i x low is ∙ ap (λ n. get_or xs n None) at ∙ r.0,
        ap (λ n. held_in (slice_set xs n None)) at ∙ r.1,
      )

  pub past_all : (xs : List (Option Message)) → length xs ≤ place (holds test) xs →
      (None ≡ find test (held_in xs)) × (held_in xs ≡ without test (held_in xs))
  past_all [] le = (refl, refl)
  past_all (None ∷ xs) le = past_all xs (omega (arith, le))
  past_all (Some m ∷ xs) le =
      elim (test m) as (λ t. test m ≡ t → suc (length xs) ≤ cond (not t) (1 + place (holds test) xs) 0 →
      (None ≡ cond t (Some m) (find test (held_in xs))) × (m ∷ held_in xs ≡ without test (m ∷ held_in xs))) [
        | true ↦ λ e k. absurd (omega (arith, k))
        | false ↦ λ e k.
            let r = past_all xs (omega (arith, k)) in
            (r.0, ap (λ zs. m ∷ zs) r.1 ∙ sym (first_behind test m (held_in xs) e))
      ] refl le
