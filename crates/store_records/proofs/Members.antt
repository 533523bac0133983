-- What a list has.
use Rattle.std.proofs.Common.{◌≡◌, ◌<◌, ◌≤◌, ℕ, zero, suc, ◌⊎◌, inl, inr, List, [], ◌∷◌, ◌++◌, length, map, take, refl, sym, subst, ◌∙◌, ap, arith}
use Rattle.std.specs.Prelude.{true, false, nat_eq, Some, None, slice_get}
use Rattle.std.specs.List.{flat_map, list_any, AllByRecursion, IsDistinct}
use Rattle.std.proofs.lemmas.Bool.{or_cases, or_left, or_right, eqb-true, eq-eqb, ne_eqb, false≢true}
use Rattle.std.proofs.lemmas.Map.Keys.{IsDistinct-head, IsDistinct-tail, IsDistinct-cons}
use Rattle.message_types.specs.Soundness.{Each}

-- x is among these
abbrev pub Has : {A : Type 0} → A → List A → Type 0
Has x [] = ⊥
Has x (y ∷ ys) = (x ≡ y) ⊎ Has x ys

pub has_left : {A : Type 0} (x : A) (xs ys : List A) → Has x xs → Has x (xs ++ ys)
has_left x [] ys h = absurd h
has_left x (y ∷ xs) ys (inl e) = inl e
has_left x (y ∷ xs) ys (inr h) = inr (has_left x xs ys h)

pub has_right : {A : Type 0} (x : A) (xs ys : List A) → Has x ys → Has x (xs ++ ys)
has_right x [] ys h = h
has_right x (y ∷ xs) ys h = inr (has_right x xs ys h)

pub has_either : {A : Type 0} (x : A) (xs ys : List A) → Has x (xs ++ ys) → Has x xs ⊎ Has x ys
has_either x [] ys h = inr h
has_either x (y ∷ xs) ys (inl e) = inl (inl e)
has_either x (y ∷ xs) ys (inr h) = by (has_either x xs ys h)
  where
    by : Has x xs ⊎ Has x ys → Has x (y ∷ xs) ⊎ Has x ys
    by (inl k) = inl (inr k)
    by (inr k) = inr k

pub has_map : {A B : Type 0} (f : A → B) (x : A) (xs : List A) → Has x xs → Has (f x) (map f xs)
has_map f x [] h = absurd h
has_map f x (y ∷ xs) (inl e) = inl (ap f e)
has_map f x (y ∷ xs) (inr h) = inr (has_map f x xs h)

pub has_mapped : {A B : Type 0} (f : A → B) (y : B) (xs : List A) → Has y (map f xs) → (x : A) × Has x xs × (y ≡ f x)
has_mapped f y [] h = absurd h
has_mapped f y (x ∷ xs) (inl e) = (x, inl refl, e)
has_mapped f y (x ∷ xs) (inr h) = let (z, k, e) = has_mapped f y xs h in (z, inr k, e)

pub has_flat : {A B : Type 0} (f : A → List B) (x : A) (y : B) (xs : List A) → Has x xs → Has y (f x) → Has y (flat_map f xs)
has_flat f x y [] h k = absurd h
has_flat f x y (z ∷ xs) (inl e) k = has_left y (f z) (flat_map f xs) (subst (λ w. Has y (f w)) e k)
has_flat f x y (z ∷ xs) (inr h) k = has_right y (f z) (flat_map f xs) (has_flat f x y xs h k)

pub has_flattened : {A B : Type 0} (f : A → List B) (y : B) (xs : List A) → Has y (flat_map f xs) → (x : A) × Has x xs × Has y (f x)
has_flattened f y [] h = absurd h
has_flattened f y (x ∷ xs) h =
    elim (has_either y (f x) (flat_map f xs) h) [
      | inl k ↦ (x, inl refl, k)
      | inr k ↦ let (z, there, here) = has_flattened f y xs k in (z, inr there, here)
    ]

pub has_got : {A : Type 0} (x : A) (xs : List A) (i : ℕ) → slice_get xs i ≡ Some x → Has x xs
has_got x [] i e = absurd (cc)
has_got x (y ∷ xs) zero e = inl (let same : x ≡ y = cc in same)
has_got x (y ∷ xs) (suc i) e = inr (has_got x xs i e)

-- by a test
pub has_any : (x : ℕ) (xs : List ℕ) → Has x xs → list_any (nat_eq x) xs ≡ true
has_any x [] h = absurd h
has_any x (y ∷ xs) (inl e) = or_left (nat_eq x y) (list_any (nat_eq x) xs) (eq-eqb x y e)
has_any x (y ∷ xs) (inr h) = or_right (nat_eq x y) (list_any (nat_eq x) xs) (has_any x xs h)

pub any_has : (x : ℕ) (xs : List ℕ) → list_any (nat_eq x) xs ≡ true → Has x xs
any_has x [] h = absurd (false≢true h)
any_has x (y ∷ xs) h =
    elim (or_cases (nat_eq x y) (list_any (nat_eq x) xs) h) [ inl e ↦ inl (eqb-true x y e) | inr k ↦ inr (any_has x xs k) ]

-- what holds of each
pub each_has : {A : Type 0} (P : A → Type 0) (x : A) (xs : List A) → Each P xs → Has x xs → P x
each_has P x [] e h = absurd h
each_has P x (y ∷ xs) e (inl same) = subst P (sym same) e.0
each_has P x (y ∷ xs) e (inr h) = each_has P x xs e.1 h

pub each_append : {A : Type 0} (P : A → Type 0) (xs ys : List A) → Each P xs → Each P ys → Each P (xs ++ ys)
each_append P [] ys h k = k
each_append P (x ∷ xs) ys h k = (h.0, each_append P xs ys h.1 k)

pub each_of : {A : Type 0} (P : A → Type 0) (xs : List A) → ((x : A) → Has x xs → P x) → Each P xs
each_of P [] h = tt
each_of P (x ∷ xs) h = (h x (inl refl), each_of P xs (λ y k. h y (inr k)))

-- numbers that differ
all_apart : (x y : ℕ) (ys : List ℕ) → AllByRecursion (λ z. nat_eq x z ≡ false) ys → Has y ys → x ≡ y → ⊥
all_apart x y [] h k e = absurd k
all_apart x y (z ∷ ys) h (inl same) e = false≢true (sym h.0 ∙ eq-eqb x z (e ∙ same))
all_apart x y (z ∷ ys) h (inr k) e = all_apart x y ys h.1 k e

pub first_apart : (x y : ℕ) (ys : List ℕ) → IsDistinct nat_eq (x ∷ ys) → Has y ys → x ≡ y → ⊥
first_apart x y ys d k e = all_apart x y ys (IsDistinct-head nat_eq x ys d) k e

all_differ : (x : ℕ) (ys : List ℕ) → ((y : ℕ) → Has y ys → x ≡ y → ⊥) → AllByRecursion (λ z. nat_eq x z ≡ false) ys
all_differ x [] h = tt
all_differ x (y ∷ ys) h = (ne_eqb x y (h y (inl refl)), all_differ x ys (λ z k. h z (inr k)))

pub one_more : (x : ℕ) (ys : List ℕ) → IsDistinct nat_eq ys → ((y : ℕ) → Has y ys → x ≡ y → ⊥) → IsDistinct nat_eq (x ∷ ys)
one_more x ys d h = IsDistinct-cons nat_eq x ys (all_differ x ys h) d

pub parts_apart : (x : ℕ) (xs ys : List ℕ) → IsDistinct nat_eq (xs ++ ys) → Has x xs → Has x ys → ⊥
parts_apart x [] ys d h k = absurd h
parts_apart x (z ∷ xs) ys d (inl e) k = first_apart z x (xs ++ ys) d (has_right x xs ys k) (sym e)
parts_apart x (z ∷ xs) ys d (inr h) k = parts_apart x xs ys (IsDistinct-tail nat_eq z (xs ++ ys) d) h k

pub right_apart : (xs ys : List ℕ) → IsDistinct nat_eq (xs ++ ys) → IsDistinct nat_eq ys
right_apart [] ys d = d
right_apart (x ∷ xs) ys d = right_apart xs ys (IsDistinct-tail nat_eq x (xs ++ ys) d)

all_left : (x : ℕ) (xs ys : List ℕ) → AllByRecursion (λ z. nat_eq x z ≡ false) (xs ++ ys) → AllByRecursion (λ z. nat_eq x z ≡ false) xs
all_left x [] ys h = tt
all_left x (z ∷ xs) ys h = (h.0, all_left x xs ys h.1)

pub left_apart : (xs ys : List ℕ) → IsDistinct nat_eq (xs ++ ys) → IsDistinct nat_eq xs
unfolding IsDistinct
left_apart [] ys d = tt
left_apart (x ∷ xs) ys d =
    IsDistinct-cons nat_eq x xs (all_left x xs ys (IsDistinct-head nat_eq x (xs ++ ys) d)) (left_apart xs ys (IsDistinct-tail nat_eq x (xs ++ ys) d))

-- pieces of what differs: one element is in one piece
pub piece_apart : {A : Type 0} (f : A → List ℕ) (a b : A) (x : ℕ) (xs : List A) → IsDistinct nat_eq (flat_map f xs) → Has a xs → Has b xs → Has x (f a) → Has x (f b) → a ≡ b
piece_apart f a b x [] d ha hb ka kb = absurd ha
piece_apart f a b x (z ∷ xs) d (inl ea) (inl eb) ka kb = ea ∙ sym eb
piece_apart f a b x (z ∷ xs) d (inl ea) (inr hb) ka kb =
    absurd (parts_apart x (f z) (flat_map f xs) d (subst (λ w. Has x (f w)) ea ka) (has_flat f b x xs hb kb))
piece_apart f a b x (z ∷ xs) d (inr ha) (inl eb) ka kb =
    absurd (parts_apart x (f z) (flat_map f xs) d (subst (λ w. Has x (f w)) eb kb) (has_flat f a x xs ha ka))
piece_apart f a b x (z ∷ xs) d (inr ha) (inr hb) ka kb = piece_apart f a b x xs (right_apart (f z) (flat_map f xs) d) ha hb ka kb

pub piece_distinct : {A : Type 0} (f : A → List ℕ) (a : A) (xs : List A) → IsDistinct nat_eq (flat_map f xs) → Has a xs → IsDistinct nat_eq (f a)
piece_distinct f a [] d h = absurd h
piece_distinct f a (z ∷ xs) d (inl e) = subst (λ w. IsDistinct nat_eq (f w)) (sym e) (left_apart (f z) (flat_map f xs) d)
piece_distinct f a (z ∷ xs) d (inr h) = piece_distinct f a xs (right_apart (f z) (flat_map f xs) d) h

-- and each has its own image
pub image_apart : {A : Type 0} (f : A → ℕ) (a b : A) (xs : List A) → IsDistinct nat_eq (map f xs) → Has a xs → Has b xs → f a ≡ f b → a ≡ b
image_apart f a b [] d ha hb e = absurd ha
image_apart f a b (z ∷ xs) d (inl ea) (inl eb) e = ea ∙ sym eb
image_apart f a b (z ∷ xs) d (inl ea) (inr hb) e = absurd (first_apart (f z) (f b) (map f xs) d (has_map f b xs hb) (ap f (sym ea) ∙ e))
image_apart f a b (z ∷ xs) d (inr ha) (inl eb) e = absurd (first_apart (f z) (f a) (map f xs) d (has_map f a xs ha) (ap f (sym eb) ∙ sym e))
image_apart f a b (z ∷ xs) d (inr ha) (inr hb) e = image_apart f a b xs (IsDistinct-tail nat_eq (f z) (map f xs) d) ha hb e

-- the first ones, and one more
pub take_got : {A : Type 0} (x : A) (xs : List A) (i : ℕ) → slice_get xs i ≡ Some x → take (suc i) xs ≡ take i xs ++ x ∷ []
take_got x [] i e = absurd (cc)
take_got x (y ∷ xs) zero e = let same : y ≡ x = cc in λ i. same i ∷ []
take_got x (y ∷ xs) (suc i) e = ap (λ zs. y ∷ zs) (take_got x xs i e)

pub got_inside : {A : Type 0} (x : A) (xs : List A) (i : ℕ) → slice_get xs i ≡ Some x → i < length xs
got_inside x [] i e = absurd (cc)
got_inside x (y ∷ xs) zero e = omega arith
got_inside x (y ∷ xs) (suc i) e = let rest = got_inside x xs i e in omega (arith, rest)

pub none_got : {A : Type 0} (xs : List A) (i : ℕ) → slice_get xs i ≡ None → length xs ≤ i
none_got [] i e = omega arith
none_got (y ∷ xs) zero e = absurd (cc)
none_got (y ∷ xs) (suc i) e = let rest = none_got xs i e in omega (arith, rest)

pub has_taken : {A : Type 0} (x : A) (xs : List A) (n : ℕ) → Has x (take n xs) → Has x xs
has_taken x xs zero h = absurd h
has_taken x [] (suc n) h = absurd h
has_taken x (y ∷ xs) (suc n) (inl e) = inl e
has_taken x (y ∷ xs) (suc n) (inr h) = inr (has_taken x xs n h)

-- an element stands once: the one at a place isn't among those before it
pub before_apart : (x : ℕ) (xs : List ℕ) (i : ℕ) → IsDistinct nat_eq xs → slice_get xs i ≡ Some x → Has x (take i xs) → ⊥
before_apart x [] i d e h = absurd (cc)
before_apart x (y ∷ xs) zero d e h = absurd h
before_apart x (y ∷ xs) (suc i) d e (inl same) = first_apart y x xs d (has_got x xs i e) (sym same)
before_apart x (y ∷ xs) (suc i) d e (inr h) = before_apart x xs i (IsDistinct-tail nat_eq y xs d) e h
