-- Places in lists.
use Rattle.std.proofs.Common.{◌≡◌, ℕ, zero, suc, List, [], ◌∷◌, ◌++◌, length, map, take, drop, Some, refl, ap, ◌∙◌, arith}
use Rattle.std.specs.Prelude.{slice_get}
use Rattle.std.proofs.lemmas.List.{append-nil}

pub get_map : {S T : Type 0} (f : S → T) (xs : List S) (k : ℕ) (x : S) → slice_get xs k ≡ Some x → slice_get (map f xs) k ≡ Some (f x)
get_map f [] k x e = absurd (cc)
get_map f (y ∷ xs) zero x e = (let same : y ≡ x = cc in ap (λ z. Some (f z)) same)
get_map f (y ∷ xs) (suc k) x e = get_map f xs k x e

-- what a place of a mapped list comes from
pub record Mapped {S T : Type 0} (f : S → T) (xs : List S) (k : ℕ) (y : T) : Type 0 where
  pub from : S
  pub was : slice_get xs k ≡ Some from
  pub is : f from ≡ y

pub mapped : {S T : Type 0} (f : S → T) (xs : List S) (k : ℕ) (y : T) → slice_get (map f xs) k ≡ Some y → Mapped f xs k y
mapped f [] k y e = absurd (cc)
mapped f (x ∷ xs) zero y e = record { from = x; was = refl; is = cc }
mapped f (x ∷ xs) (suc k) y e = (let m = mapped f xs k y e in record { from = m.from; was = m.was; is = m.is })

pub get_middle : {X : Type 0} (front behind : List X) (x : X) (k : ℕ) → k ≡ length front → slice_get (front ++ x ∷ behind) k ≡ Some x
get_middle [] behind x zero e = refl
get_middle [] behind x (suc k) e = absurd (omega (arith, e))
get_middle (y ∷ front) behind x zero e = absurd (omega (arith, e))
get_middle (y ∷ front) behind x (suc k) e = get_middle front behind x k (omega (arith, e))

take_all : {X : Type 0} (xs : List X) (n : ℕ) → n ≡ length xs → take n xs ≡ xs
take_all [] zero e = refl
take_all [] (suc n) e = refl
take_all (x ∷ xs) zero e = absurd (omega (arith, e))
take_all (x ∷ xs) (suc n) e = ap (λ l. x ∷ l) (take_all xs n (omega (arith, e)))

drop_all : {X : Type 0} (xs : List X) (n : ℕ) → n ≡ length xs → drop n xs ≡ []
drop_all [] zero e = refl
drop_all [] (suc n) e = refl
drop_all (x ∷ xs) zero e = absurd (omega (arith, e))
drop_all (x ∷ xs) (suc n) e = drop_all xs n (omega (arith, e))

-- what a slice leaves in the list that it was borrowed from
pub written_back : {X : Type 0} (n : ℕ) (olds news : List X) → length news ≡ length olds → n ≡ length olds → take n (news ++ drop (length news) olds) ≡ news
written_back n olds news count e = ap (λ l. take n (news ++ l)) (drop_all olds (length news) count) ∙ ap (λ l. take n l) (append-nil news) ∙ take_all news n (omega (arith, count, e))

-- or of what was lent
pub lent_back : {X : Type 0} (n : ℕ) (olds lent news : List X) → lent ≡ olds → n ≡ length olds → length news ≡ length lent → take n (news ++ drop (length news) olds) ≡ news
lent_back n olds lent news is e count = written_back n olds news (count ∙ ap length is) e
