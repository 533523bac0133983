-- Counts and orders of lists that are put together.
use Rattle.std.proofs.Common.{◌≡◌, ℕ, zero, suc, ◌+◌, Bool, true, false, ◌&&◌, not, cond, List, [], ◌∷◌, ◌++◌, map, insert, Some, refl, sym, ap, ◌∙◌, rules, arith}
use Rattle.std.specs.Prelude.{if◌then◌else◌}
use Rattle.std.specs.List.{find, flat_map, list_all, sum_by, count_by}
use Rattle.std.specs.Option.{option_map_or}
use Rattle.std.proofs.lemmas.List.Sums.{sum_by-cons, sum_by-append}
use Rattle.tree_objects.proofs.Observed.{and_left, and_right}
use Rattle.tree_objects.proofs.Rising.{and_both, all_implied}
use Rattle.tree_laws.specs.Labels.{each_two}

-- counts
pub count_append : {X : Type 0} (p : X → Bool) (xs ys : List X) → count_by p (xs ++ ys) ≡ count_by p xs + count_by p ys
count_append p xs ys = sum_by-append (λ x. cond (p x) 1 0) xs ys

pub sum_same : {X : Type 0} (f g : X → ℕ) → ((x : X) → f x ≡ g x) → (xs : List X) → sum_by f xs ≡ sum_by g xs
sum_same f g same [] = refl
sum_same f g same (x ∷ xs) = sum_by-cons f x xs ∙ ap (λ n. n + sum_by f xs) (same x) ∙ ap (λ n. g x + n) (sum_same f g same xs) ∙ sym (sum_by-cons g x xs)

pub count_same : {X : Type 0} (p q : X → Bool) → ((x : X) → p x ≡ q x) → (xs : List X) → count_by p xs ≡ count_by q xs
count_same p q same xs = sum_same (λ x. cond (p x) 1 0) (λ x. cond (q x) 1 0) (λ x. ap (λ b. cond b 1 0) (same x)) xs

pub sum_zero : {X : Type 0} (f : X → ℕ) → ((x : X) → f x ≡ 0) → (xs : List X) → sum_by f xs ≡ 0
sum_zero f none [] = refl
sum_zero f none (x ∷ xs) = sum_by-cons f x xs ∙ ap (λ n. n + sum_by f xs) (none x) ∙ ap (λ n. 0 + n) (sum_zero f none xs)

pub count_none : {X : Type 0} (p : X → Bool) → ((x : X) → p x ≡ false) → (xs : List X) → count_by p xs ≡ 0
count_none p none xs = sum_zero (λ x. cond (p x) 1 0) (λ x. ap (λ b. cond b 1 0) (none x)) xs

pub count_map : {X Y : Type 0} (p : Y → Bool) (f : X → Y) (xs : List X) → count_by p (map f xs) ≡ count_by (λ x. p (f x)) xs
count_map p f [] = refl
count_map p f (x ∷ xs) =
    sum_by-cons (λ y. cond (p y) 1 0) (f x) (map f xs) ∙ ap (λ n. cond (p (f x)) 1 0 + n) (count_map p f xs) ∙ sym (sum_by-cons (λ x. cond (p (f x)) 1 0) x xs)

pub count_flat : {X Y : Type 0} (p : Y → Bool) (f : X → List Y) (xs : List X) → count_by p (flat_map f xs) ≡ sum_by (λ x. count_by p (f x)) xs
count_flat p f [] = refl
count_flat p f (x ∷ xs) = count_append p (f x) (flat_map f xs) ∙ ap (λ n. count_by p (f x) + n) (count_flat p f xs) ∙ sym (sum_by-cons (λ x. count_by p (f x)) x xs)

pub sum_insert : {X : Type 0} (f : X → ℕ) (new : X) (i : ℕ) (xs : List X) → sum_by f (insert xs i new) ≡ f new + sum_by f xs
sum_insert f new zero xs = sum_by-cons f new xs
sum_insert f new (suc i) [] = sum_by-cons f new []
sum_insert f new (suc i) (x ∷ xs) =
    let a = sum_by-cons f x (insert xs i new) in let b = sum_insert f new i xs in let c = sum_by-cons f x xs in omega (arith, a, b, c)

-- where one at most passes a test
none_passes : {X : Type 0} (p : X → Bool) (d : X → ℕ) (x : X) (xs : List X) → p x ≡ true → list_all (λ y. not (p x && p y)) xs ≡ true → sum_by (λ y. if p y then d y else 0) xs ≡ 0
none_passes p d x [] e h = refl
none_passes p d x (y ∷ ys) e h =
    sum_by-cons (λ y. if p y then d y else 0) y ys ∙ ap (λ n. n + sum_by (λ y. if p y then d y else 0) ys) (by_test (p x) (p y) e (and_left _ _ h))
    ∙ ap (λ n. 0 + n) (none_passes p d x ys e (and_right _ _ h))
  where
    by_test : (a b : Bool) → a ≡ true → not (a && b) ≡ true → (if b then d y else 0) ≡ 0
    by_test true true e h = absurd (search (rules, h))
    by_test true false e h = refl
    by_test false b e h = absurd (search (rules, e))

pub sum_of_one : {X : Type 0} (p : X → Bool) (d : X → ℕ) (xs : List X) → each_two (λ a b. not (p a && p b)) xs ≡ true → sum_by (λ x. if p x then d x else 0) xs ≡ option_map_or d (find p xs) 0
sum_of_one p d [] h = refl
sum_of_one {X = X} p d (x ∷ xs) h = sum_by-cons (λ x. if p x then d x else 0) x xs ∙ by_test (p x) refl (sum_of_one p d xs (and_right _ _ h))
  where
    by_test : (b : Bool) → p x ≡ b → sum_by (λ x. if p x then d x else 0) xs ≡ option_map_or d (find p xs) 0 → (if b then d x else 0) + sum_by (λ x. if p x then d x else 0) xs ≡ option_map_or d (cond b (Some x) (find p xs)) 0
    by_test true e rest = let none = none_passes p d x xs e (and_left _ _ h) in omega (arith, none)
    by_test false e rest = omega (arith, rest)

-- orders
pub two_implied : {X : Type 0} (s t : X → X → Bool) → ((a b : X) → s a b ≡ true → t a b ≡ true) → (xs : List X) → each_two s xs ≡ true → each_two t xs ≡ true
two_implied s t f [] h = refl
two_implied s t f (x ∷ xs) h = and_both _ _ (all_implied (s x) (t x) (f x) xs (and_left _ _ h)) (two_implied s t f xs (and_right _ _ h))

pub all_appended : {X : Type 0} (p : X → Bool) (xs ys : List X) → list_all p xs ≡ true → list_all p ys ≡ true → list_all p (xs ++ ys) ≡ true
all_appended p [] ys h k = k
all_appended p (x ∷ xs) ys h k = and_both _ _ (and_left _ _ h) (all_appended p xs ys (and_right _ _ h) k)

pub all_map : {X Y : Type 0} (p : Y → Bool) (f : X → Y) → (xs : List X) → list_all (λ x. p (f x)) xs ≡ true → list_all p (map f xs) ≡ true
all_map p f [] h = refl
all_map p f (x ∷ xs) h = and_both _ _ (and_left _ _ h) (all_map p f xs (and_right _ _ h))

pub all_true : {X : Type 0} (p : X → Bool) → ((x : X) → p x ≡ true) → (xs : List X) → list_all p xs ≡ true
all_true p h [] = refl
all_true p h (x ∷ xs) = and_both _ _ (h x) (all_true p h xs)

pub all_flat : {X Y : Type 0} (p : Y → Bool) (f : X → List Y) (xs : List X) → list_all (λ x. list_all p (f x)) xs ≡ true → list_all p (flat_map f xs) ≡ true
all_flat p f [] h = refl
all_flat p f (x ∷ xs) h = all_appended p (f x) (flat_map f xs) (and_left _ _ h) (all_flat p f xs (and_right _ _ h))

pub two_append : {X : Type 0} (t : X → X → Bool) (xs ys : List X) → each_two t xs ≡ true → each_two t ys ≡ true → list_all (λ x. list_all (t x) ys) xs ≡ true → each_two t (xs ++ ys) ≡ true
two_append t [] ys h k c = k
two_append t (x ∷ xs) ys h k c = and_both _ _ (all_appended (t x) xs ys (and_left _ _ h) (and_left _ _ c)) (two_append t xs ys (and_right _ _ h) k (and_right _ _ c))

pub two_map : {X Y : Type 0} (t : Y → Y → Bool) (f : X → Y) (xs : List X) → each_two (λ a b. t (f a) (f b)) xs ≡ true → each_two t (map f xs) ≡ true
two_map t f [] h = refl
two_map t f (x ∷ xs) h = and_both _ _ (all_map (t (f x)) f xs (and_left _ _ h)) (two_map t f xs (and_right _ _ h))

-- one list over the pieces of another
all_over : {X Y : Type 0} (t : Y → Y → Bool) (f : X → List Y) (firsts : List Y) (xs : List X) → list_all (λ x. list_all (λ a. list_all (t a) (f x)) firsts) xs ≡ true →
    list_all (λ a. list_all (t a) (flat_map f xs)) firsts ≡ true
all_over t f [] xs k = refl
all_over t f (a ∷ firsts) xs k =
    and_both _ _
    (all_flat (t a) f xs (all_implied (λ x. list_all (λ a. list_all (t a) (f x)) (a ∷ firsts)) (λ x. list_all (t a) (f x)) (λ x e. and_left (list_all (t a) (f x)) (list_all (λ a. list_all (t a) (f x)) firsts) e) xs k))
    (all_over t f firsts xs (all_implied (λ x. list_all (λ a. list_all (t a) (f x)) (a ∷ firsts)) (λ x. list_all (λ a. list_all (t a) (f x)) firsts) (λ x e. and_right (list_all (t a) (f x)) (list_all (λ a. list_all (t a) (f x)) firsts) e) xs k))

-- pieces in order, each in order by itself
pub two_flat : {X Y : Type 0} (s : X → X → Bool) (t : Y → Y → Bool) (f : X → List Y) → ((a b : X) → s a b ≡ true → list_all (λ x. list_all (t x) (f b)) (f a) ≡ true) → (xs : List X) →
    each_two s xs ≡ true → list_all (λ x. each_two t (f x)) xs ≡ true → each_two t (flat_map f xs) ≡ true
two_flat s t f across [] h each = refl
two_flat s t f across (x ∷ xs) h each =
    two_append t (f x) (flat_map f xs) (and_left _ _ each) (two_flat s t f across xs (and_right _ _ h) (and_right _ _ each))
    (all_over t f (f x) xs (all_implied (s x) (λ y. list_all (λ a. list_all (t a) (f y)) (f x)) (λ y e. across x y e) xs (and_left _ _ h)))
