-- Lists whose elements are changed one after the other.
use Rattle.std.proofs.Common.{◌≡◌, ℕ, zero, suc, ◌+◌, ◌<◌, ◌≤◌, List, [], ◌∷◌, length, get_or, set, map, refl, ap}
use Rattle.std.proofs.Common.{◌∙◌, arith}

-- with the first so many elements changed
abbrev pub mapped_first : {X : Type 0} → (X → X) → ℕ → List X → List X
mapped_first f zero xs = xs
mapped_first f (suc i) [] = []
mapped_first f (suc i) (x ∷ xs) = f x ∷ mapped_first f i xs

-- as many
pub mapped_length : {X : Type 0} (f : X → X) (i : ℕ) (xs : List X) → length (mapped_first f i xs) ≡ length xs
mapped_length f zero xs = refl
mapped_length f (suc i) [] = refl
mapped_length f (suc i) (x ∷ xs) = ap suc (mapped_length f i xs)

-- all of them
pub mapped_all : {X : Type 0} (f : X → X) (i : ℕ) (xs ys : List X) → ys ≡ mapped_first f i xs → length xs ≤ i → ys
    ≡ map f xs
mapped_all f i xs ys e h = rw e (all f i xs h)
  where
    all : {X : Type 0} (f : X → X) (i : ℕ) (xs : List X) → length xs ≤ i → mapped_first f i xs ≡ map f xs
    all f zero [] h = refl
    all f zero (x ∷ xs) h = absurd (omega (arith, h))
    all f (suc i) [] h = refl
    all f (suc i) (x ∷ xs) h = ap (λ zs. f x ∷ zs) (all f i xs (omega (arith, h)))

next : {X : Type 0} (f : X → X) (i : ℕ) (xs : List X) (x y : X) → i < length xs → x ≡ get_or (mapped_first f i xs) i
    x → y ≡ f x → set (mapped_first f i xs) i y ≡ mapped_first f (i + 1) xs
next f i [] x y h g w = absurd (omega (arith, h))
next f zero (z ∷ zs) x y h g w = ap (λ b. b ∷ zs) (w ∙ ap f g)
next f (suc i) (z ∷ zs) x y h g w = let e : suc i + 1 ≡ suc (i + 1) = omega arith in rw e
    (ap (λ bs. f z ∷ bs) (next f i zs x y (omega (arith, h)) g w))

-- one more
pub mapped_next : {X : Type 0} (f : X → X) (i : ℕ) (xs ys : List X) (x y : X) → ys ≡ mapped_first f i xs → i < length
    xs → x ≡ get_or ys i x → y ≡ f x → set ys i y ≡ mapped_first f (i + 1) xs
mapped_next f i xs ys x y e h g w = ap (λ bs. set bs i y) e ∙ next f i xs x y h (g ∙ ap (λ bs. get_or bs i x) e) w

pub ruleset maps = (mapped_length, mapped_all, mapped_next)
