-- A relation of each element of a list and each later one.
use Rattle.std.proofs.Common.{zero, suc, List, [], ◌∷◌, ◌++◌, get_or, append-nil, append_assoc, sym, subst, arith}
use Rattle.std.specs.Prelude.{All, AllPairs}
use Rattle.std.proofs.lemmas.List.Elements.{All-head, All-tail, All-push}
use Rattle.std.proofs.lemmas.List.Quantifiers.{all_pairs_push}

-- the first stands so to each later one
pub pairs_head : {X : Type 0} (R : X → X → Type 0) (x : X) (xs : List X) → AllPairs R (x ∷ xs) → All (R x) xs
pairs_head R x xs h k d within = h zero (suc k) d (omega arith) (omega arith)

pub pairs_tail : {X : Type 0} (R : X → X → Type 0) (x : X) (xs : List X) → AllPairs R (x ∷ xs) → AllPairs R xs
pairs_tail R x xs h i j d before within = h (suc i) (suc j) d (omega arith) (omega arith)

-- each of a list, and one more, stand so to each of another
each_more : {X : Type 0} (R : X → X → Type 0) (xs : List X) (y : X) (ys : List X) → All (R y) ys →
    All (λ z. All (λ x. R x z) xs) ys → All (λ z. All (λ x. R x z) (xs ++ y ∷ [])) ys
each_more R xs y ys h all k d within = All-push (λ x. R x (get_or ys k d)) xs y (all k d within) (h k d within)

-- two lists, where each of the first stands so to each of the second
pub pairs_append : {X : Type 0} (R : X → X → Type 0) (xs ys : List X) → AllPairs R xs → AllPairs R ys →
    All (λ y. All (λ x. R x y) xs) ys → AllPairs R (xs ++ ys)
pairs_append R xs [] h k all = subst (λ zs. AllPairs R zs) (sym (append-nil xs)) h
pairs_append R xs (y ∷ ys) h k all =
    subst (λ zs. AllPairs R zs) (append_assoc xs (y ∷ []) ys)
    (pairs_append R (xs ++ y ∷ []) ys
    (all_pairs_push R xs y h (All-head (λ z. All (λ x. R x z) xs) y ys all))
    (pairs_tail R y ys k)
    (each_more R xs y ys (pairs_head R y ys k) (All-tail (λ z. All (λ x. R x z) xs) y ys all)))
