-- Facts on each element of a list, by its place.
use Rattle.std.proofs.Common.{◌≡◌, ◌⊎◌, ⊎_elim, inl, inr, ℕ, zero, suc, ◌+◌, ◌<◌, List, [], ◌∷◌, ◌++◌, map, length}
use Rattle.std.proofs.Common.{get_or, refl, sym, ap, ◌∙◌, subst, arith}
use Rattle.std.proofs.Math.ListN.{set}
use Rattle.std.specs.Prelude.{remove, take}
use Rattle.std.proofs.lemmas.List.{get_or-set_same, get_or-set_other, length-set}
use Rattle.run_rules.specs.Past.{In}
use Rattle.hub_drive.specs.Seats.{EachAt, PairsAt}

pub same_or_not : (a b : ℕ) → (a ≡ b) ⊎ (a ≡ b → ⊥)
same_or_not zero zero = inl refl
same_or_not zero (suc b) = inr (λ e. absurd (cc))
same_or_not (suc a) zero = inr (λ e. absurd (cc))
same_or_not (suc a) (suc b) = ⊎_elim
    (λ (e : a ≡ b). inl (ap suc e)) (λ (differ : a ≡ b → ⊥). inr (λ e. differ (omega arith))) (same_or_not a b)

module _ {A : Type 0} where
  pub each_in : (P : A → Type 0) (xs : List A) (x : A) → EachAt P xs → In x xs → P x
  each_in P [] x h i = absurd i
  each_in P (y ∷ xs) x h i = ⊎_elim
      (λ (e : x ≡ y). subst P (sym e) (h 0 y (omega arith)))
      (λ (k : In x xs). each_in P xs x (λ j d lt. h (suc j) d (omega (arith, lt))) k)
      i

  pub in_each : (P : A → Type 0) (xs : List A) → ((x : A) → In x xs → P x) → EachAt P xs
  in_each P [] h i d lt = absurd (omega (arith, lt))
  in_each P (x ∷ xs) h zero d lt = h x (inl refl)
  in_each P (x ∷ xs) h (suc i) d lt = in_each P xs (λ y k. h y (inr k)) i d (omega (arith, lt))

  -- one is put in the place of another
  pub each_set : (P : A → Type 0) (xs : List A) (k : ℕ) (y : A) → EachAt P xs → P y → EachAt P (set xs k y)
  each_set P xs k y h p i d lt = ⊎_elim
      (λ (e : i ≡ k).
      let size = length-set xs k y in
      let here : k < length xs = omega (arith, lt, e, size) in
      subst (λ j. P (get_or (set xs k y) j d)) (sym e) (subst P (sym (get_or-set_same xs k y d here)) p))
      (λ (differ : i ≡ k → ⊥).
      let size = length-set xs k y in
      subst P (sym (get_or-set_other xs k i y d differ)) (h i d (omega (arith, lt, size))))
      (same_or_not i k)

  -- the first so many
  abbrev pub FirstAt : (A → Type 0) → ℕ → List A → Type 0
  FirstAt P k xs = (i : ℕ) (d : A) → i < k → i < length xs → P (get_or xs i d)

  pub first_more : (P : A → Type 0) (xs : List A) (k : ℕ) (y : A) → FirstAt P k xs → P y
      → FirstAt P (k + 1) (set xs k y)
  first_more P xs k y h p i d low lt = ⊎_elim
      (λ (e : i ≡ k).
      let size = length-set xs k y in
      let here : k < length xs = omega (arith, lt, e, size) in
      subst (λ j. P (get_or (set xs k y) j d)) (sym e) (subst P (sym (get_or-set_same xs k y d here)) p))
      (λ (differ : i ≡ k → ⊥).
      let size = length-set xs k y in
      let other : k ≡ i → ⊥ = λ e. differ (sym e) in
      subst P (sym (get_or-set_other xs k i y d differ)) (h i d (below i k low differ) (omega (arith, lt, size))))
      (same_or_not i k)
    where
      below : (i k : ℕ) → i < k + 1 → (i ≡ k → ⊥) → i < k
      below zero zero lt differ = absurd (differ refl)
      below zero (suc k) lt differ = omega arith
      below (suc i) zero lt differ = absurd (omega (arith, lt))
      below (suc i) (suc k) lt differ =
          let again = below i k (omega (arith, lt)) (λ e. differ (ap suc e)) in omega arith

  pub pairs_same : (R : A → A → Type 0) (xs : List A) → ((x : A) → R x x) → PairsAt R xs xs
  pairs_same R xs h = record { count = refl; each = λ i d lt. h (get_or xs i d) }

  pub pairs_then : (R : A → A → Type 0) → ((a b c : A) → R a b → R b c → R a c) → (xs ys zs : List A)
      → PairsAt R xs ys → PairsAt R ys zs → PairsAt R xs zs
  pairs_then R on xs ys zs h k =
      let size = h.count in
      record {
        count = k.count ∙ h.count;
        each = λ i d lt. on (get_or xs i d) (get_or ys i d) (get_or zs i d) (h.each i d lt)
            (k.each i d (omega (arith, lt, size)));
      }

  pub defaults : (xs : List A) (i : ℕ) (d e : A) → i < length xs → get_or xs i d ≡ get_or xs i e
  defaults [] i d e lt = absurd (omega (arith, lt))
  defaults (x ∷ xs) zero d e lt = refl
  defaults (x ∷ xs) (suc i) d e lt = defaults xs i d e (omega (arith, lt))

  pub pairs_set : (R : A → A → Type 0) → ((x : A) → R x x) → (xs : List A) (k : ℕ) (y e : A) → R (get_or xs k e) y
      → PairsAt R xs (set xs k y)
  pairs_set R so xs k y e r = record {
    count = length-set xs k y;
    each = λ i d lt. ⊎_elim
        (λ (same : i ≡ k).
        let here : k < length xs = omega (arith, lt, same) in
        subst (λ j. R (get_or xs j d) (get_or (set xs k y) j d)) (sym same)
        (subst (R (get_or xs k d)) (sym (get_or-set_same xs k y d here))
        (subst (λ z. R z y) (defaults xs k e d here) r)))
        (λ (differ : i ≡ k → ⊥).
        subst (R (get_or xs i d)) (sym (get_or-set_other xs k i y d differ)) (so (get_or xs i d)))
        (same_or_not i k);
  }

  in_last : (x y : A) (xs : List A) → In x (xs ++ y ∷ []) → In x xs ⊎ (x ≡ y)
  in_last x y [] (inl e) = inr e
  in_last x y [] (inr none) = absurd none
  in_last x y (z ∷ xs) h = ⊎_elim
      (λ (e : x ≡ z). inl (inl e))
      (λ (i : In x (xs ++ y ∷ [])). ⊎_elim (λ (a : In x xs). inl (inr a)) (λ (b : x ≡ y). inr b) (in_last x y xs i))
      h

  pub each_push : (P : A → Type 0) (xs : List A) (y : A) → EachAt P xs → P y → EachAt P (xs ++ y ∷ [])
  each_push P xs y h p = in_each P (xs ++ y ∷ []) (λ x i. ⊎_elim
      (λ (a : In x xs). each_in P xs x h a) (λ (e : x ≡ y). subst P (sym e) p) (in_last x y xs i))

pub map_push : {A B : Type 0} (f : A → B) (xs : List A) (y : A) → map f (xs ++ y ∷ []) ≡ map f xs ++ f y ∷ []
map_push f [] y = refl
map_push f (x ∷ xs) y = ap (λ l. f x ∷ l) (map_push f xs y)

map_at : {A B : Type 0} (f : A → B) (xs : List A) (i : ℕ) (d : A) (e : B) → i < length xs
    → get_or (map f xs) i e ≡ f (get_or xs i d)
map_at f [] i d e lt = absurd (omega (arith, lt))
map_at f (x ∷ xs) zero d e lt = refl
map_at f (x ∷ xs) (suc i) d e lt = map_at f xs i d e (omega (arith, lt))

-- what two maps that are the same say at a place
pub same_at : {A B C : Type 0} (f : A → C) (g : B → C) (xs : List A) (ys : List B) (i : ℕ) (d : A) (e : B)
    → map f xs ≡ map g ys → i < length xs → i < length ys → f (get_or xs i d) ≡ g (get_or ys i e)
same_at f g xs ys i d e same lx ly =
    sym (map_at f xs i d (f d) lx) ∙ ap (λ l. get_or l i (f d)) same ∙ map_at g ys i e (f d) ly

pub map_size : {A B : Type 0} (f : A → B) (xs : List A) → length (map f xs) ≡ length xs
map_size f [] = refl
map_size f (x ∷ xs) = ap suc (map_size f xs)

pub map_here : {A B : Type 0} (f : A → B) (xs : List A) (i : ℕ) (d : A) (e : B) → i < length xs
    → get_or (map f xs) i e ≡ f (get_or xs i d)
map_here f xs i d e lt = map_at f xs i d e lt

-- the first is taken off
pub head_taken : {A : Type 0} (xs : List A) (x : A) (rest : List A) → 0 < length xs → x ≡ get_or xs 0 x
    → rest ≡ remove xs 0 → x ∷ rest ≡ xs
head_taken [] x rest lt v e = absurd (omega (arith, lt))
head_taken (y ∷ ys) x rest lt v e = λ i. v i ∷ e i

pub maps_same : {A B : Type 0} (f : A → B) (olds news : List A) → length news ≡ length olds
    → ((i : ℕ) (d : A) → i < length olds → f (get_or news i d) ≡ f (get_or olds i d)) → map f news ≡ map f olds
maps_same f [] [] n h = refl
maps_same f [] (x ∷ news) n h = absurd (omega (arith, n))
maps_same f (o ∷ olds) [] n h = absurd (omega (arith, n))
maps_same f (o ∷ olds) (x ∷ news) n h =
    let first = h 0 o (omega arith) in
    let rest = maps_same f olds news (omega (arith, n)) (λ i d lt. h (suc i) d (omega (arith, lt))) in
    λ i. first i ∷ rest i

-- what was lent and came back
pub back_again : {A : Type 0} (news rest : List A) → take (length news) (news ++ rest) ≡ news
back_again [] rest = refl
back_again (x ∷ news) rest = ap (λ l. x ∷ l) (back_again news rest)

-- what is so of each two is so of their maps
pub pairs_map : {A B : Type 0} (f : A → B) (R : B → B → Type 0) (olds news : List A) → length news ≡ length olds
    → ((i : ℕ) (d : A) → i < length olds → R (f (get_or olds i d)) (f (get_or news i d)))
    → PairsAt R (map f olds) (map f news)
pairs_map {A} {B} f R olds news n h =
    let a = map_size f olds in let b = map_size f news in
    record {
      count = omega arith;
      each = λ i d lt. two olds news n h i d (omega (arith, lt, a));
    }
  where
    two : (olds news : List A) → length news ≡ length olds
        → ((i : ℕ) (d : A) → i < length olds → R (f (get_or olds i d)) (f (get_or news i d)))
        → (i : ℕ) (d : B) → i < length olds → R (get_or (map f olds) i d) (get_or (map f news) i d)
    two [] news n h i d lt = absurd (omega (arith, lt))
    two (o ∷ olds) news n h i d lt =
        let there : i < length news = omega (arith, lt, n) in
        let old = map_here f (o ∷ olds) i o d lt in
        let new = map_here f news i o d there in
        subst (R (get_or (map f (o ∷ olds)) i d)) (sym new)
        (subst (λ x. R x (f (get_or news i o))) (sym old) (h i o lt))

pub map_set : {A B : Type 0} (f : A → B) (xs : List A) (k : ℕ) (y : A) → map f (set xs k y) ≡ set (map f xs) k (f y)
map_set f [] k y = refl
map_set f (x ∷ xs) zero y = refl
map_set f (x ∷ xs) (suc k) y = ap (λ l. f x ∷ l) (map_set f xs k y)
