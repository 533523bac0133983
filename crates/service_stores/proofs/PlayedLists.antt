-- What holds of each element of a list.
use Rattle.std.proofs.Common.{◌≡◌, ℕ, zero, suc, Bool, true, false, List, [], ◌∷◌, ◌++◌, Option, Some, None, refl, sym, ◌∙◌, subst, rules}
use Rattle.std.specs.Prelude.{filter, if◌then◌else◌, map, flat_map, slice_get}
use Rattle.std.specs.List.{list_all}
use Rattle.std.specs.Option.{option_map_or}
use Rattle.std.proofs.lemmas.Bool.{and_parts}
use Rattle.message_types.specs.Soundness.{Each}

pub each_append : {A : Type 0} (P : A → Type 0) (xs ys : List A) → Each P xs → Each P ys → Each P (xs ++ ys)
each_append P [] ys h k = k
each_append P (x ∷ xs) ys h k = (h.0, each_append P xs ys h.1 k)

pub each_left : {A : Type 0} (P : A → Type 0) (xs ys : List A) → Each P (xs ++ ys) → Each P xs
each_left P [] ys h = tt
each_left P (x ∷ xs) ys h = (h.0, each_left P xs ys h.1)

pub each_right : {A : Type 0} (P : A → Type 0) (xs ys : List A) → Each P (xs ++ ys) → Each P ys
each_right P [] ys h = h
each_right P (x ∷ xs) ys h = each_right P xs ys h.1

pub each_more : {A : Type 0} (P Q : A → Type 0) (xs : List A) → ((x : A) → P x → Q x) → Each P xs → Each Q xs
each_more P Q [] f h = tt
each_more P Q (x ∷ xs) f h = (f x h.0, each_more P Q xs f h.1)

pub each_one : {A : Type 0} (P : A → Type 0) (xs : List A) → ((x : A) → P x) → Each P xs
each_one P [] f = tt
each_one P (x ∷ xs) f = (f x, each_one P xs f)

pub each_mapped : {A B : Type 0} (P : B → Type 0) (f : A → B) (xs : List A) → ((x : A) → P (f x)) → Each P (map f xs)
each_mapped P f [] h = tt
each_mapped P f (x ∷ xs) h = (h x, each_mapped P f xs h)

-- lists that are joined
pub each_parts : {A B : Type 0} (P : B → Type 0) (f : A → List B) (xs : List A) → Each P (flat_map f xs) →
    Each (λ x. Each P (f x)) xs
each_parts P f [] h = tt
each_parts P f (x ∷ xs) h =
    (each_left P (f x) (flat_map f xs) h, each_parts P f xs (each_right P (f x) (flat_map f xs) h))

pub each_joined : {A B : Type 0} (P : B → Type 0) (f : A → List B) (xs : List A) → Each (λ x. Each P (f x)) xs →
    Each P (flat_map f xs)
each_joined P f [] h = tt
each_joined P f (x ∷ xs) h = each_append P (f x) (flat_map f xs) h.0 (each_joined P f xs h.1)

-- elements that pass a test
pub each_tested : {A : Type 0} (P : A → Type 0) (test : A → Bool) (xs : List A) → Each P (filter test xs) →
    Each (λ x. test x ≡ true → P x) xs
each_tested P test [] h = tt
each_tested P test (x ∷ xs) h = by (test x) refl h (λ k. each_tested P test xs k)
  where
    by : (v : Bool) → test x ≡ v → Each P (if v then x ∷ filter test xs else filter test xs) →
        (Each P (filter test xs) → Each (λ y. test y ≡ true → P y) xs) → Each (λ y. test y ≡ true → P y) (x ∷ xs)
    by true e k rest = (λ t. k.0, rest k.1)
    by false e k rest = (λ t. let wrong : false ≡ true = sym e ∙ t in absurd (cc), rest k)

-- for each of many
pub each_for : {A B : Type 0} (P : A → B → Type 0) (xs : List B) → ((a : A) → Each (P a) xs) →
    Each (λ x. (a : A) → P a x) xs
each_for P [] h = tt
each_for P (x ∷ xs) h = (λ a. (h a).0, each_for P xs (λ a. (h a).1))

pub each_both : {A : Type 0} (P Q R : A → Type 0) (xs : List A) → ((x : A) → P x → Q x → R x) → Each P xs → Each Q xs →
    Each R xs
each_both P Q R [] f h k = tt
each_both P Q R (x ∷ xs) f h k = (f x h.0 k.0, each_both P Q R xs f h.1 k.1)

pub each_get : {A : Type 0} (P : A → Type 0) (xs : List A) (i : ℕ) (x : A) → slice_get xs i ≡ Some x → Each P xs → P x
each_get P [] i x e h = absurd (search (rules, e))
each_get P (y ∷ xs) zero x e h = let same : y ≡ x = cc in subst P same h.0
each_get P (y ∷ xs) (suc i) x e h = each_get P xs i x e h.1

-- what holds of each line of a list that passes a test
pub each_all : {A : Type 0} (P Q : A → Type 0) (test : A → Bool) (xs : List A) →
    ((x : A) → test x ≡ true → P x → Q x) → list_all test xs ≡ true → Each P xs → Each Q xs
each_all P Q test [] f h k = tt
each_all P Q test (x ∷ xs) f h k =
    let parts = and_parts (test x) (list_all test xs) h in (f x parts.0 k.0, each_all P Q test xs f parts.1 k.1)

-- elements at places
pub each_at : {A : Type 0} (P : A → Type 0) (xs : List A) (places : List ℕ) → Each P xs →
    Each P (flat_map (λ place. option_map_or (λ x. x ∷ []) (slice_get xs place) []) places)
each_at P xs places h =
    each_joined P (λ place. option_map_or (λ x. x ∷ []) (slice_get xs place) []) places
    (each_one (λ place. Each P (option_map_or (λ x. x ∷ []) (slice_get xs place) [])) places
    (λ place. at (slice_get xs place) (λ x e. each_get P xs place x e h)))
  where
    at : (o : Option _) → ((x : _) → o ≡ Some x → P x) → Each P (option_map_or (λ x. x ∷ []) o [])
    at None f = tt
    at (Some x) f = (f x refl, tt)
