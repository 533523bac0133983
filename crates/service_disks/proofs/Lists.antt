-- Lists.
use Rattle.std.proofs.Common.{◌≡◌, ◌<◌, ◌+◌, ◌++◌, List, [], ◌∷◌, length, refl, sym, ◌∙◌, ap, arith}
use Rattle.std.specs.Prelude.{insert, remove, slice_index_or}

-- the first of a list, put in and taken out
pub put_at_front : {X : Type 0} (xs : List X) (x : X) → insert xs 0 x ≡ x ∷ xs
put_at_front [] x = refl
put_at_front (y ∷ ys) x = refl

pub take_front : {X : Type 0} (xs : List X) (x : X) → 0 < length xs → x ≡ slice_index_or xs 0 x → xs ≡ x ∷ remove xs 0
take_front [] x some is = absurd (omega (arith, some))
take_front (y ∷ []) x some is = ap (λ z. z ∷ []) (sym is)
take_front (y ∷ z ∷ zs) x some is = ap (λ w. w ∷ z ∷ zs) (sym is)

pub append_nil : {X : Type 0} (xs : List X) → xs ++ [] ≡ xs
append_nil [] = refl
append_nil (x ∷ xs) = ap (λ l. x ∷ l) (append_nil xs)

pub longer : {X : Type 0} (xs : List X) (x : X) → length (xs ++ x ∷ []) ≡ length xs + 1
longer [] x = refl
longer (y ∷ ys) x = let h = longer ys x in omega (arith, h)

pub one_more : {X Y : Type 0} (xs : List X) (ys : List Y) (x : X) (y : Y) → length xs ≡ length ys → length (xs ++ x ∷ []) ≡ length (ys ++ y ∷ [])
one_more xs ys x y e = longer xs x ∙ ap (λ i. i + 1) e ∙ sym (longer ys y)
