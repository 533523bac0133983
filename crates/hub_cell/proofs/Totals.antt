-- Sums over all views, and one view among them.
use Rattle.std.proofs.Common.{◌≡◌, ◌≢◌, ℕ, zero, suc, ◌+◌, ◌<◌, ◌≤◌, List, [], ◌∷◌, ◌++◌, length, set, refl, sym, ap}
use Rattle.std.proofs.Common.{subst, ⊎_elim, suc-ne-zero, arith}
use mathlib.Core.Option.{some, some-ne-none, some-injective}
use lib.ListN.{get_elem?}
use Rattle.atomic_table.proofs.Lists.{at_set}
use Rattle.hub_cell.specs.Lock.{total}

module _ {V : Type 0} (f : V → ℕ) where
  pub total_set : (vs : List V) (j : ℕ) (v w : V) → get_elem? vs j ≡ some v → total f (set vs j w) + f v ≡ total f
      vs + f w
  total_set [] j v w e = absurd (some-ne-none v (sym e))
  total_set (x ∷ xs) zero v w e = let s = ap f (some-injective x v e) in omega arith
  total_set (x ∷ xs) (suc j) v w e = let i = total_set xs j v w e in omega arith

  pub total_more : (vs : List V) (w : V) → total f (vs ++ w ∷ []) ≡ total f vs + f w
  total_more [] w = omega arith
  total_more (x ∷ xs) w = let i = total_more xs w in omega arith

  pub total_has : (vs : List V) (j : ℕ) (v : V) → get_elem? vs j ≡ some v → f v ≤ total f vs
  total_has [] j v e = absurd (some-ne-none v (sym e))
  total_has (x ∷ xs) zero v e = let s = ap f (some-injective x v e) in omega arith
  total_has (x ∷ xs) (suc j) v e = let i = total_has xs j v e in omega arith

  pub total_none : (vs : List V) → ((j : ℕ) (v : V) → get_elem? vs j ≡ some v → f v ≡ 0) → total f vs ≡ 0
  total_none [] h = refl
  total_none (x ∷ xs) h = let i = total_none xs (λ j v e. h (suc j) v e) in let s = h zero x refl in omega arith

  -- where all others count for nothing
  pub total_one : (vs : List V) (j : ℕ) (v : V) → get_elem? vs j ≡ some v → ((i : ℕ) (u : V) → i ≢ j →
      get_elem? vs i ≡ some u → f u ≡ 0) → total f vs ≡ f v
  total_one [] j v e h = absurd (some-ne-none v (sym e))
  total_one (x ∷ xs) zero v e h = let i = total_none xs (λ k u a. h (suc k) u (λ z. suc-ne-zero k z) a) in
      let s = ap f (some-injective x v e) in omega arith
  total_one (x ∷ xs) (suc j) v e h = let i = total_one xs j v e (λ k u n a.
      h (suc k) u (λ z. n (let y : k ≡ j = omega arith in y)) a) in
      let s = h zero x (λ z. suc-ne-zero j (sym z)) refl in omega arith

  pub total_two : (vs : List V) (i j : ℕ) (v w : V) → i ≢ j → get_elem? vs i ≡ some v → get_elem? vs j ≡ some w →
      f v + f w ≤ total f vs
  total_two [] i j v w apart a b = absurd (some-ne-none v (sym a))
  total_two (x ∷ xs) zero zero v w apart a b = absurd (apart refl)
  total_two (x ∷ xs) zero (suc j) v w apart a b = let s = ap f (some-injective x v a) in let t = total_has xs j w b in
      omega arith
  total_two (x ∷ xs) (suc i) zero v w apart a b = let s = ap f (some-injective x w b) in let t = total_has xs i v a in
      omega arith
  total_two (x ∷ xs) (suc i) (suc j) v w apart a b = let t = total_two xs i j v w (λ e. apart (ap suc e)) a b in
      omega arith

pub total_least : {V : Type 0} (f g : V → ℕ) (vs : List V) → ((j : ℕ) (v : V) → get_elem? vs j ≡ some v → f v ≤ g v) →
    total f vs ≤ total g vs
total_least f g [] h = omega arith
total_least f g (x ∷ xs) h = let i = total_least f g xs (λ j v e. h (suc j) v e) in let s = h zero x refl in omega arith

module _ {V : Type 0} where
  pub there : (vs : List V) (j : ℕ) (v : V) → get_elem? vs j ≡ some v → j < length vs
  there [] j v e = absurd (some-ne-none v (sym e))
  there (x ∷ xs) zero v e = omega arith
  there (x ∷ xs) (suc j) v e = let i = there xs j v e in omega arith

  -- a fact of each view, where one changed
  pub each_set : (P : ℕ → V → Type 0) (vs : List V) (id : ℕ) (w : V) → ((j : ℕ) (u : V) → j ≢ id → get_elem? vs j ≡ some
      u → P j u) → P id w
      → (j : ℕ) (u : V) → get_elem? (set vs id w) j ≡ some u → P j u
  each_set P vs id w others mine j u e =
      ⊎_elim
      (λ (x : (j ≡ id) × (w ≡ u)). subst (λ (y : ℕ × V). P y.0 y.1) (λ i. (sym x.0 i, x.1 i)) mine)
      (λ (x : (j ≢ id) × (get_elem? vs j ≡ some u)). others j u x.0 x.1)
      (at_set vs id j w u e)
