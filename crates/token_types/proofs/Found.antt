-- What a search of a list found.
use Rattle.std.proofs.Common.{◌≡◌, Bool, true, false, List, [], ◌∷◌, Some, None, refl, arith}
use Rattle.std.specs.List.{find, list_any}
use Rattle.std.proofs.lemmas.Bool.{cases_Bool, or_left, or_right}

-- the element passes the test
pub find_passes : {X : Type 0} (p : X → Bool) (xs : List X) (x : X) → find p xs ≡ Some x → p x ≡ true
find_passes p [] x e = cc
find_passes p (y ∷ ys) x e = grind (arith, cases_Bool (p y), find_passes p ys x)

-- it passes each weaker test
pub any_found : {X : Type 0} (p q : X → Bool) (xs : List X) (x : X) → find p xs ≡ Some x → q x ≡ true →
    list_any q xs ≡ true
any_found p q [] x e h = cc
any_found p q (y ∷ ys) x e h = grind (arith, cases_Bool (p y), any_found p q ys x, or_left, or_right)

-- nothing was found
pub none_found : {X : Type 0} (p : X → Bool) (xs : List X) → find p xs ≡ None → list_any p xs ≡ false
none_found p [] e = refl
none_found p (y ∷ ys) e = grind (arith, cases_Bool (p y), none_found p ys)
