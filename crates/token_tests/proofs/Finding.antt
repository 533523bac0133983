-- Whether a search of a list finds anything.
use Rattle.std.proofs.Common.{◌≡◌, Bool, List, [], ◌∷◌, is_some, refl, arith}
use Rattle.std.specs.List.{find, list_any}
use Rattle.std.proofs.lemmas.Bool.{cases_Bool}

pub some_found : {X : Type 0} (p : X → Bool) (xs : List X) → is_some (find p xs) ≡ list_any p xs
some_found p [] = refl
some_found p (x ∷ xs) = grind (arith, cases_Bool (p x), some_found p xs)
