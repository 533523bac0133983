-- Lists all of whose elements meet a test.
use Rattle.std.proofs.Common.{Bool, List, Some, inl, inr, refl, suc, true, ℕ, ◌&&◌, ◌∷◌, ◌≡◌}
use Rattle.std.proofs.lemmas.Bool.{and_parts}
use Rattle.std.specs.List.{list_all}
use Rattle.std.specs.Prelude.{[], slice_get}
use Rattle.run_rules.specs.Past.{In}

-- each that stands in it does
pub all_in : {X : Type 0} (p : X → Bool) (xs : List X) → ((x : X) → In x xs → p x ≡ true) → list_all p xs ≡ true
all_in p [] each = refl
all_in p (x ∷ xs) each = λ i. each x (inl refl) i && all_in p xs (λ y j. each y (inr j)) i

-- each place of it does
pub all_placed : {X : Type 0} (p : X → Bool) (xs : List X) → ((n : ℕ) (x : X) → slice_get xs n ≡ Some x → p x ≡ true)
    → list_all p xs ≡ true
all_placed p [] each = refl
all_placed p (x ∷ xs) each = λ i. each 0 x refl i && all_placed p xs (λ n y e. each (suc n) y e) i

-- two tests
pub all_parts : {X : Type 0} (p q : X → Bool) (xs : List X) → list_all (λ x. p x && q x) xs ≡ true
    → (list_all p xs ≡ true) × (list_all q xs ≡ true)
all_parts p q [] e = (refl, refl)
all_parts p q (x ∷ xs) e =
    let k = and_parts (p x && q x) (list_all (λ y. p y && q y) xs) e in
    let one = and_parts (p x) (q x) k.0 in
    let rest = all_parts p q xs k.1 in ((λ i. one.0 i && rest.0 i), (λ i. one.1 i && rest.1 i))

pub all_both : {X : Type 0} (p q : X → Bool) (xs : List X) → list_all p xs ≡ true → list_all q xs ≡ true
    → list_all (λ x. p x && q x) xs ≡ true
all_both p q [] a b = refl
all_both p q (x ∷ xs) a b =
    let k = and_parts (p x) (list_all p xs) a in
    let l = and_parts (q x) (list_all q xs) b in
    λ i. (k.0 i && l.0 i) && all_both p q xs k.1 l.1 i
