-- Two places with the same bytes are the same.
use Rattle.std.proofs.Common.{◌≡◌, ◌∙◌, ◌∷◌, ◌++◌, List, None, Some, [], ap, arith, drop, get_or, length, refl, subst}
use Rattle.std.proofs.Common.{sym, ℕ}
use Rattle.host_tables.specs.declared.tables.Tables.{Tables}
use Rattle.host_tells.specs.Knows.{IsKnown, IsLast, name_bytes, path_bytes, place_bytes}
use Rattle.host_tells.specs.declared.last.Known.{Known}
use Rattle.host_tells.specs.declared.last.Last.{Last}
use Rattle.tree_calls.specs.declared.place.Place.{Place}

first_is : (x y : ℕ) (xs ys : List ℕ) → x ∷ xs ≡ y ∷ ys → x ≡ y
first_is x y xs ys e = ap (λ l. get_or l 0 0) e

rest_is : (x y : ℕ) (xs ys : List ℕ) → x ∷ xs ≡ y ∷ ys → xs ≡ ys
rest_is x y xs ys e = ap (λ l. drop 1 l) e

front_same : (a b r s : List ℕ) → length a ≡ length b → a ++ r ≡ b ++ s → (a ≡ b) × (r ≡ s)
front_same [] [] r s l e = (refl, e)
front_same [] (y ∷ b) r s l e = absurd (omega (arith, l))
front_same (x ∷ a) [] r s l e = absurd (omega (arith, l))
front_same (x ∷ a) (y ∷ b) r s l e =
    let k : length a ≡ length b = omega (arith, l) in
    let rest = front_same a b r s k (rest_is x y (a ++ r) (b ++ s) e) in
    ((λ i. first_is x y (a ++ r) (b ++ s) e i ∷ rest.0 i), rest.1)

name_same : (a b r s : List ℕ) → name_bytes a r ≡ name_bytes b s → (a ≡ b) × (r ≡ s)
name_same a b r s e =
    front_same a b r s (first_is (length a) (length b) (a ++ r) (b ++ s) e)
    (rest_is (length a) (length b) (a ++ r) (b ++ s) e)

path_same : (a b : List (List ℕ)) → path_bytes a ≡ path_bytes b → a ≡ b
path_same [] [] e = refl
path_same [] (n ∷ b) e = let k = ap (λ (l : List ℕ). length l) e in absurd (omega (arith, k))
path_same (n ∷ a) [] e = let k = ap (λ (l : List ℕ). length l) e in absurd (omega (arith, k))
path_same (n ∷ a) (k ∷ b) e =
    let names = name_same n k (path_bytes a) (path_bytes b) e in
    λ i. names.0 i ∷ path_same a b names.1 i

pub place_same : (a b : Place) → place_bytes a ≡ place_bytes b → a ≡ b
place_same a b e =
    let server = first_is a.server.0 b.server.0 (name_bytes a.fileset (path_bytes a.path))
    (name_bytes b.fileset (path_bytes b.path)) e in
    let names = name_same a.fileset b.fileset (path_bytes a.path) (path_bytes b.path)
    (rest_is a.server.0 b.server.0 (name_bytes a.fileset (path_bytes a.path))
    (name_bytes b.fileset (path_bytes b.path)) e) in
    let paths = path_same a.path b.path names.1 in
    λ i. record { server = record { 0 = server i }; fileset = names.0 i; path = paths i }

-- ---- what is kept
none_some : (known : Known) → None ≡ Some known → ⊥
none_some known e = absurd (cc)

pub forgotten : (m : Tables) (last : Last) → last.known ≡ None → IsLast m last
forgotten m last none = λ known is place e. absurd (none_some known (sym none ∙ is))

-- of one place alone something is known
pub kept_so : (m : Tables) (last : Last) (place : Place) (known : Known) → IsKnown m place known →
    ((it : Known) → last.known ≡ Some it → (it ≡ known) × (last.place.items ≡ place_bytes place)) → IsLast m last
kept_so m last place known it kept = λ other is there e.
    let h = kept other is in
    subst (λ (k : Known). IsKnown m there k) (sym h.0)
    (subst (λ (p : Place). IsKnown m p known) (sym (place_same there place (e ∙ h.1))) it)

pub kept_again : (m : Tables) (last : Last) (place : Place) (known : Known) → IsKnown m place known →
    last.known ≡ Some known → place_bytes place ≡ last.place.items → IsLast m last
kept_again m last place known it is there =
    kept_so m last place known it (λ other e. (some_is other known (sym e ∙ is), sym there))
  where
    some_is : (a b : Known) → Some a ≡ Some b → a ≡ b
    some_is a b e = cc
