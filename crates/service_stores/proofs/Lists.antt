-- Lists that change element by element.
use Rattle.service_starts.proofs.CheckFormed.{get_some}
use Rattle.std.proofs.Common.{◌≡◌, ◌≢◌, ◌⊎◌, true, false, ℕ, zero, suc, ◌+◌, ◌<◌, List, [], ◌∷◌, ◌++◌, take, length, inl, inr, refl, sym, subst, ap, ◌∙◌, arith}
use Rattle.std.specs.Prelude.{slice_get, Some, Result, Ok, Err, IfOk, IfErr}
use Rattle.std.proofs.Math.ListN.{set}
use Rattle.std.proofs.Math.Dec.{eqb}
use Rattle.std.proofs.lemmas.Bool.Decides.{eqb_tells}
use Rattle.std.proofs.lemmas.Option.{same_Some, slice_get_within}

-- each element became what a relation says
pub record AllAre {X : Type 0} (P : ℕ → X → X → Type 0) (old new : List X) : Type 0 where
  pub count : length new ≡ length old
  pub each : (j : ℕ) (a b : X) → slice_get old j ≡ Some a → slice_get new j ≡ Some b → P j a b

-- an element that is put into a list, and the others
pub get_same : {X : Type 0} (xs : List X) (i : ℕ) (y : X) → i < length xs → slice_get (set xs i y) i ≡ Some y
get_same [] i y lt = absurd (omega (arith, lt))
get_same (x ∷ xs) zero y lt = refl
get_same (x ∷ xs) (suc i) y lt = get_same xs i y (omega (arith, lt))

pub get_other : {X : Type 0} (xs : List X) (i j : ℕ) (y : X) → (j ≡ i → ⊥) → slice_get (set xs i y) j ≡ slice_get xs j
get_other [] i j y ne = refl
get_other (x ∷ xs) zero zero y ne = absurd (ne refl)
get_other (x ∷ xs) zero (suc j) y ne = refl
get_other (x ∷ xs) (suc i) zero y ne = refl
get_other (x ∷ xs) (suc i) (suc j) y ne = get_other xs i j y (λ e. ne (ap suc e))

pub size_kept : {X : Type 0} (xs : List X) (i : ℕ) (y : X) → length (set xs i y) ≡ length xs
size_kept [] i y = refl
size_kept (x ∷ xs) zero y = refl
size_kept (x ∷ xs) (suc i) y = ap suc (size_kept xs i y)

pub take_next : {X : Type 0} (xs : List X) (k : ℕ) (x : X) → slice_get xs k ≡ Some x → take (k + 1) xs ≡ take k xs ++ x ∷ []
take_next {X = X} xs k x e = let number : suc k ≡ k + 1 = omega arith in subst (λ (n : ℕ). take n xs ≡ take k xs ++ x ∷ []) number (next xs k e)
  where
    next : (ys : List X) (i : ℕ) → slice_get ys i ≡ Some x → take (suc i) ys ≡ take i ys ++ x ∷ []
    next [] i e = cc
    next (y ∷ ys) zero e = ap (λ z. z ∷ []) (same_Some y x e)
    next (y ∷ ys) (suc i) e = ap (λ l. y ∷ l) (next ys i e)

-- as they are
pub are_self : {X : Type 0} (P : ℕ → X → X → Type 0) (xs : List X) → ((j : ℕ) (a : X) → slice_get xs j ≡ Some a → P j a a) → AllAre P xs xs
are_self P xs h = record {
  count = refl;
  each = λ j a b was is. subst (λ x. P j a x) (same_Some a b (sym was ∙ is)) (h j a was);
}

pub are_weaker : {X : Type 0} (P Q : ℕ → X → X → Type 0) (old new : List X) → AllAre P old new
    → ((j : ℕ) (a b : X) → slice_get old j ≡ Some a → slice_get new j ≡ Some b → P j a b → Q j a b) → AllAre Q old new
are_weaker P Q old new h f = record { count = h.count; each = λ j a b was is. f j a b was is (h.each j a b was is) }

-- one of them is put
pub are_put : {X : Type 0} (P Q : ℕ → X → X → Type 0) (old now : List X) (i : ℕ) (x y : X) → i < length now → slice_get now i ≡ Some x → AllAre P old now
    → ((a : X) → slice_get old i ≡ Some a → P i a x → Q i a y) → ((j : ℕ) (a b : X) → (j ≡ i → ⊥) → P j a b → Q j a b) → AllAre Q old (set now i y)
are_put {X = X} P Q old now i x y lt at all here there =
    record { count = size_kept now i y ∙ all.count; each = λ j a b was is. by j a b (eqb_tells j i) was is }
  where
    same : (a b : X) → slice_get old i ≡ Some a → slice_get (set now i y) i ≡ Some b → Q i a b
    same a b was is = subst (λ z. Q i a z) (same_Some y b (sym (get_same now i y lt) ∙ is)) (here a was (all.each i a x was at))

    by : (j : ℕ) (a b : X) → ((eqb j i ≡ true) × (j ≡ i)) ⊎ ((eqb j i ≡ false) × (j ≢ i)) → slice_get old j ≡ Some a → slice_get (set now i y) j ≡ Some b → Q j a b
    by j a b (inl (t, e)) was is =
        subst (λ (n : ℕ). Q n a b) (sym e) (same a b (subst (λ (n : ℕ). slice_get old n ≡ Some a) e was) (subst (λ (n : ℕ). slice_get (set now i y) n ≡ Some b) e is))
    by j a b (inr (t, ne)) was is = there j a b ne (all.each j a b was (sym (get_other now i j y ne) ∙ is))

-- one change after the other
pub are_then : {X : Type 0} (P Q R : ℕ → X → X → Type 0) (old middle new : List X) → AllAre P old middle → AllAre Q middle new
    → ((j : ℕ) (a b c : X) → P j a b → Q j b c → R j a c) → AllAre R old new
are_then {X = X} P Q R old middle new h k f = record { count = k.count ∙ h.count; each = each }
  where
    each : (j : ℕ) (a c : X) → slice_get old j ≡ Some a → slice_get new j ≡ Some c → R j a c
    each j a c was is =
        let lt = slice_get_within old j a was in
        let size = h.count in
        let between = get_some middle j (omega (arith, lt, size)) in
        f j a between.0 c (h.each j a between.0 was between.1) (k.each j between.0 c between.1 is)

-- what is behind the first
pub are_behind : {X : Type 0} (P : ℕ → X → X → Type 0) (a b : X) (old new : List X) → AllAre P (a ∷ old) (b ∷ new) → AllAre (λ j. P (suc j)) old new
are_behind P a b old new h = record {
  count = let size = h.count in omega (arith, size);
  each = λ j x y was is. h.each (suc j) x y was is;
}

-- what follows of a result
pub ok_map : {T E : Type 0} (result : Result T E) (P Q : T → Type 0) → IfOk result P → ((x : T) → P x → Q x) → IfOk result Q
ok_map (Ok x) P Q h f = f x h
ok_map (Err e) P Q h f = tt

pub err_map : {T E : Type 0} (result : Result T E) (P Q : E → Type 0) → IfErr result P → ((e : E) → P e → Q e) → IfErr result Q
err_map (Ok x) P Q h f = tt
err_map (Err e) P Q h f = f e h
