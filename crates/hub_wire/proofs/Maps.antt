-- Lists that are mapped.
use Rattle.std.proofs.Common.{◌≡◌, ℕ, ◌+◌, ◌-◌, Bool, true, false, cond, eqb, List, [], ◌∷◌, ◌++◌, map, Option, None}
use Rattle.std.proofs.Common.{Some, refl, ap, ◌∙◌, arith, eq-eqb, ne_eqb}
use Rattle.std.specs.List.{find}
use Rattle.std.specs.Option.{option_map}
use Rattle.std.proofs.lemmas.Bool.{eqb-true, eqb-false}

pub map_same : {X Y : Type 0} (f g : X → Y) → ((x : X) → f x ≡ g x) → (xs : List X) → map f xs ≡ map g xs
map_same f g same [] = refl
map_same f g same (x ∷ xs) = ap (λ y. y ∷ map f xs) (same x) ∙ ap (λ ys. g x ∷ ys) (map_same f g same xs)

pub map_twice : {X Y Z : Type 0} (f : X → Y) (g : Y → Z) (xs : List X) → map g (map f xs) ≡ map (λ x. g (f x)) xs
map_twice f g [] = refl
map_twice f g (x ∷ xs) = ap (λ ys. g (f x) ∷ ys) (map_twice f g xs)

pub map_append : {X Y : Type 0} (f : X → Y) (xs ys : List X) → map f (xs ++ ys) ≡ map f xs ++ map f ys
map_append f [] ys = refl
map_append f (x ∷ xs) ys = ap (λ zs. f x ∷ zs) (map_append f xs ys)

pub append_none : {X : Type 0} (xs : List X) → xs ++ [] ≡ xs
append_none [] = refl
append_none (x ∷ xs) = ap (λ ys. x ∷ ys) (append_none xs)

-- what is found among mapped ones
found_either : {X Y : Type 0} (f : X → Y) (b : Bool) (x : X) (o : Option Y) (k : Option X) → o ≡ option_map f k
    → cond b (Some (f x)) o ≡ option_map f (cond b (Some x) k)
found_either f true x o k e = refl
found_either f false x o k e = e

pub find_mapped : {X Y : Type 0} (p : Y → Bool) (q : X → Bool) (f : X → Y) → ((x : X) → p (f x) ≡ q x) → (xs : List X)
    → find p (map f xs) ≡ option_map f (find q xs)
find_mapped p q f same [] = refl
find_mapped p q f same (x ∷ xs) =
    ap (λ b. cond b (Some (f x)) (find p (map f xs))) (same x)
    ∙ found_either f (q x) x (find p (map f xs)) (find q xs) (find_mapped p q f same xs)

pub mapped_twice : {X Y Z : Type 0} (f : X → Y) (g : Y → Z) (o : Option X)
    → option_map g (option_map f o) ≡ option_map (λ x. g (f x)) o
mapped_twice f g None = refl
mapped_twice f g (Some x) = refl

-- one is left of n where c are gone, or c and one more are n
pub last_one : (n c : ℕ) → eqb (n - c) 1 ≡ eqb (c + 1) n
last_one n c = by_test (eqb (c + 1) n) refl
  where
    by_test : (b : Bool) → eqb (c + 1) n ≡ b → eqb (n - c) 1 ≡ b
    by_test true e = let h = eqb-true (c + 1) n e in eq-eqb (n - c) 1 (omega (arith, h))
    by_test false e = ne_eqb (n - c) 1 (λ k. eqb-false (c + 1) n e (omega (arith, k)))
