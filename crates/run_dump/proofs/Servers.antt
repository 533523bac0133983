-- Each fileset is at one server.
use Rattle.std.proofs.Common.{Bool, List, ap, arith, cond, false, refl, subst, sym, true, ℕ, ◌&&◌, ◌++◌, ◌==◌, ◌∙◌, ◌∷◌, ◌≡◌, ◌||◌, []}
use Rattle.std.specs.List.{filter, flat_map, list_all, list_any}
use Rattle.std.specs.Prelude.{IsPermutation}
use Rattle.std.proofs.lemmas.Grind.{common_steps}
use Rattle.std.proofs.lemmas.List.Sorted.{IsPermutation-append_right, IsPermutation-cons, IsPermutation-middle, IsPermutation-refl, IsPermutation-trans}

module _ {X : Type 0} (key : X → ℕ) where
  abbrev group : List X → ℕ → List X
  group xs k = filter (λ x. key x == k) xs

  abbrev pub groups : List X → List ℕ → List X
  groups xs ks = flat_map (group xs) ks

  -- an element whose key is none of these
  none_of : (x : X) (xs : List X) (ks : List ℕ) → list_any (λ k. key x == k) ks ≡ false →
      groups (x ∷ xs) ks ≡ groups xs ks
  none_of x xs [] e = refl
  none_of x xs (k ∷ ks) e = by (key x == k) refl (none_of x xs ks)
    where
      by : (b : Bool) → (key x == k) ≡ b →
          (list_any (λ k. key x == k) ks ≡ false → groups (x ∷ xs) ks ≡ groups xs ks) →
          cond b (x ∷ group xs k) (group xs k) ++ groups (x ∷ xs) ks ≡ group xs k ++ groups xs ks
      by true f rest =
          let clash : true ≡ false = sym (ap (λ b. b || list_any (λ k. key x == k) ks) f) ∙ e in absurd (cc)
      by false f rest =
          ap (λ ys. group xs k ++ ys)
          (rest (sym (ap (λ b. b || list_any (λ k. key x == k) ks) f) ∙ e))

  -- keys that differ
  abbrev pub Differ : List ℕ → Type 0
  Differ [] = Unit {0}
  Differ (k ∷ ks) = (list_any (λ other. k == other) ks ≡ false) × Differ ks

  same_key : (a b : ℕ) → (a == b) ≡ true → a ≡ b
  same_key a b e = grind (arith, common_steps, e)

  one_of : (x : X) (xs : List X) (ks : List ℕ) → Differ ks → list_any (λ k. key x == k) ks ≡ true →
      IsPermutation (groups (x ∷ xs) ks) (x ∷ groups xs ks)
  one_of x xs [] d e = absurd (cc)
  one_of x xs (k ∷ ks) d e = by (key x == k) refl (one_of x xs ks)
    where
      by : (b : Bool) → (key x == k) ≡ b →
          (Differ ks → list_any (λ k. key x == k) ks ≡ true → IsPermutation (groups (x ∷ xs) ks) (x ∷ groups xs ks)) →
          IsPermutation (cond b (x ∷ group xs k) (group xs k) ++ groups (x ∷ xs) ks) (x ∷ (group xs k ++ groups xs ks))
      by true f more =
          let none = ap (λ n. list_any (λ other. n == other) ks) (same_key (key x) k f) ∙ d.0 in
          subst (λ ys. IsPermutation (x ∷ (group xs k ++ ys)) (x ∷ (group xs k ++ groups xs ks)))
          (sym (none_of x xs ks none)) (IsPermutation-refl (x ∷ (group xs k ++ groups xs ks)))
      by false f more =
          let rest = more d.1 (sym (ap (λ b. b || list_any (λ k. key x == k) ks) f) ∙ e) in
          IsPermutation-trans (group xs k ++ groups (x ∷ xs) ks) (group xs k ++ x ∷ groups xs ks) _
          (IsPermutation-append_right (group xs k) (groups (x ∷ xs) ks) (x ∷ groups xs ks) rest)
          (IsPermutation-middle (group xs k) x (groups xs ks))

  and_first : (a b : Bool) → (a && b) ≡ true → (a ≡ true) × (b ≡ true)
  and_first true b e = (refl, e)
  and_first false b e = absurd (cc)

  -- all of them by their keys
  pub by_keys : (ks : List ℕ) → Differ ks → (xs : List X) → list_all (λ x. list_any (λ k. key x == k) ks) xs ≡ true →
      IsPermutation (groups xs ks) xs
  by_keys ks d [] e = subst (λ ys. IsPermutation ys []) (sym (empty ks)) (IsPermutation-refl [])
    where
      empty : (ks : List ℕ) → groups [] ks ≡ []
      empty [] = refl
      empty (k ∷ ks) = empty ks
  by_keys ks d (x ∷ xs) e =
      let both = and_first (list_any (λ k. key x == k) ks) (list_all (λ x. list_any (λ k. key x == k) ks) xs) e in
      IsPermutation-trans (groups (x ∷ xs) ks) (x ∷ groups xs ks) (x ∷ xs)
      (one_of x xs ks d both.0)
      (IsPermutation-cons x (groups xs ks) xs (by_keys ks d xs both.1))
