-- One more element, as at a step of a loop.
use Rattle.std.proofs.Common.{arith, inl, inr, subst, suc, zero, ◌≤◌}
use Rattle.run_rules.specs.Past.{In}
use Rattle.std.proofs.Common.{Bool, List, [], ap, cond, false, filter, flat_map, fold, get_or, length, map, not, refl}
use Rattle.std.proofs.Common.{sym, take, true, ℕ, ◌&&◌, ◌++◌, ◌+◌, ◌<◌, ◌||◌, ◌∙◌, ◌∷◌, ◌≡◌}
use Rattle.std.specs.List.{list_any}
use Rattle.std.proofs.lemmas.List.{flat_map_more, map_more, take_more}
use Rattle.std.proofs.lemmas.List.Elements.{filter_more}
use Rattle.std.proofs.lemmas.List.Folds.{list_any-append, list_any_more}
use Rattle.std.proofs.lemmas.List.Sums.{fold_more}

pub none_behind : {A : Type 0} (xs : List A) → xs ++ [] ≡ xs
none_behind [] = refl
none_behind (x ∷ xs) = ap (λ ys. x ∷ ys) (none_behind xs)

pub or_none : (a : Bool) → (a || false) ≡ a
or_none true = refl
or_none false = refl

pub and_none : (a : Bool) → (a && not false) ≡ a
and_none true = refl
and_none false = refl

cut_twice : (a b c : Bool) → ((a && not b) && not c) ≡ (a && not (b || c))
cut_twice true true c = refl
cut_twice true false c = refl
cut_twice false b c = refl

joined : {A : Type 0} (xs ys zs : List A) → (xs ++ ys) ++ zs ≡ xs ++ (ys ++ zs)
joined [] ys zs = refl
joined (x ∷ xs) ys zs = ap (λ ws. x ∷ ws) (joined xs ys zs)

map_joined : {A B : Type 0} (f : A → B) (xs : List A) (x : A) → map f (xs ++ x ∷ []) ≡ map f xs ++ f x ∷ []
map_joined f [] x = refl
map_joined f (y ∷ ys) x = ap (λ ws. f y ∷ ws) (map_joined f ys x)

-- what is read at a place stands there
pub read_in : {A : Type 0} (xs : List A) (i : ℕ) (d : A) → i < length xs → In (get_or xs i d) xs
read_in [] i d low = absurd (omega (arith, low))
read_in (x ∷ xs) zero d low = inl refl
read_in (x ∷ xs) (suc i) d low = inr (read_in xs i d (omega (arith, low)))

pub take_whole : {A : Type 0} (xs : List A) (i : ℕ) → length xs ≤ i → take i xs ≡ xs
take_whole [] zero low = refl
take_whole [] (suc i) low = refl
take_whole (x ∷ xs) zero low = absurd (omega (arith, low))
take_whole (x ∷ xs) (suc i) low = ap (λ ys. x ∷ ys) (take_whole xs i (omega (arith, low)))

-- what is read at a place doesn't hang on what is read behind the end
pub read_same : {A : Type 0} (xs : List A) (i : ℕ) (d : A) → i < length xs → get_or xs i d ≡ get_or xs i (get_or xs i d)
read_same [] i d low = absurd (omega (arith, low))
read_same (x ∷ xs) zero d low = refl
read_same (x ∷ xs) (suc i) d low = read_again xs i d (get_or xs i d) (omega (arith, low))
  where
    read_again : {A : Type 0} (xs : List A) (i : ℕ) (d e : A) → i < length xs → get_or xs i d ≡ get_or xs i e
    read_again [] i d e low = absurd (omega (arith, low))
    read_again (x ∷ xs) zero d e low = refl
    read_again (x ∷ xs) (suc i) d e low = read_again xs i d e (omega (arith, low))

cut_same : (d s i h : Bool) → ((d && not (s && i)) && not (s && h)) ≡ (d && not (s && (i || h)))
cut_same true true true h = refl
cut_same true true false h = refl
cut_same true false i h = refl
cut_same false s i h = refl

module _ {A : Type 0} (xs : List A) (i : ℕ) (x : A) (low : i < length xs) (item : x ≡ get_or xs i x) where
  pub fold_next : {B : Type 0} (f : B → A → B) (b : B) →
      f (fold f b (take i xs)) x ≡ fold f b (take (i + 1) xs)
  fold_next f b = sym (fold_more f b xs i x low ∙ ap (f (fold f b (take i xs))) (sym item))

  pub any_next : (p : A → Bool) → (list_any p (take i xs) || p x) ≡ list_any p (take (i + 1) xs)
  any_next p = sym (list_any_more p xs i x low ∙ ap (λ y. list_any p (take i xs) || p y) (sym item))

  pub map_next : {B : Type 0} (f : A → B) → map f (take i xs) ++ f x ∷ [] ≡ map f (take (i + 1) xs)
  map_next f = sym (map_more f xs i x low ∙ ap (λ y. map f (take i xs) ++ f y ∷ []) (sym item))

  pub flat_next : {B : Type 0} (f : A → List B) → flat_map f (take i xs) ++ f x ≡ flat_map f (take (i + 1) xs)
  flat_next f =
      flat_map_more f [] (take i xs) x
      ∙ ap (flat_map f) (sym (take_more xs i x low ∙ ap (λ y. take i xs ++ y ∷ []) (sym item)))

  filter_by : (q : A → Bool) → (b : Bool) → q x ≡ b →
      filter q (take (i + 1) xs) ≡ filter q (take i xs) ++ cond b (x ∷ []) []
  filter_by q b e =
      filter_more q xs i x low
      ∙ ap (λ y. filter q (take i xs) ++ cond (q y) (y ∷ []) []) (sym item)
      ∙ ap (λ t. filter q (take i xs) ++ cond t (x ∷ []) []) e

  pub filter_yes : (q : A → Bool) → q x ≡ true → filter q (take i xs) ++ x ∷ [] ≡ filter q (take (i + 1) xs)
  filter_yes q e = sym (filter_by q true e)

  pub filter_no : (q : A → Bool) → q x ≡ false → filter q (take i xs) ≡ filter q (take (i + 1) xs)
  filter_no q e = sym (filter_by q false e ∙ none_behind (filter q (take i xs)))

  -- what passes a test is cut out, but for what isn't kept
  pub cut_yes : (p q : A → Bool) (old now new : Bool) → q x ≡ true →
      now ≡ (old && not (list_any p (filter q (take i xs)))) → new ≡ (now && not (p x)) →
      new ≡ (old && not (list_any p (filter q (take (i + 1) xs))))
  cut_yes p q old now new keeps inv cut =
      cut ∙ ap (λ t. t && not (p x)) inv
      ∙ cut_twice old (list_any p (filter q (take i xs))) (p x)
      ∙ ap (λ t. old && not t)
      (ap (λ t. list_any p (filter q (take i xs)) || t) (sym (or_none (p x)))
      ∙ sym (list_any-append p (filter q (take i xs)) (x ∷ []))
      ∙ ap (list_any p) (filter_yes q keeps))

  pub cut_no : (p q : A → Bool) (old now : Bool) → q x ≡ false →
      now ≡ (old && not (list_any p (filter q (take i xs)))) →
      now ≡ (old && not (list_any p (filter q (take (i + 1) xs))))
  cut_no p q old now drops inv = inv ∙ ap (λ ys. old && not (list_any p ys)) (filter_no q drops)

  pub item_in : In x xs
  item_in = subst (λ y. In y xs) (sym item) (read_in xs i x low)

  -- behind what was there
  pub behind_next : {B : Type 0} (base out : List B) (f : A → B) → out ≡ base ++ map f (take i xs) →
      out ++ f x ∷ [] ≡ base ++ map f (take (i + 1) xs)
  behind_next base out f inv =
      ap (λ ys. ys ++ f x ∷ []) inv ∙ joined base (map f (take i xs)) (f x ∷ [])
      ∙ ap (λ ys. base ++ ys) (map_next f)

  -- what passes a test is picked
  pub picked_yes : {B : Type 0} (f : A → B) (q : A → Bool) (out : List B) → q x ≡ true →
      out ≡ map f (filter q (take i xs)) → out ++ f x ∷ [] ≡ map f (filter q (take (i + 1) xs))
  picked_yes f q out e inv =
      ap (λ ys. ys ++ f x ∷ []) inv ∙ sym (map_joined f (filter q (take i xs)) x) ∙ ap (map f) (filter_yes q e)

  pub picked_no : {B : Type 0} (f : A → B) (q : A → Bool) (out : List B) → q x ≡ false →
      out ≡ map f (filter q (take i xs)) → out ≡ map f (filter q (take (i + 1) xs))
  picked_no f q out e inv = inv ∙ ap (map f) (filter_no q e)

  pub kept_yes : (q : A → Bool) (out : List A) → q x ≡ true → out ≡ filter q (take i xs) →
      out ++ x ∷ [] ≡ filter q (take (i + 1) xs)
  kept_yes q out e inv = ap (λ ys. ys ++ x ∷ []) inv ∙ filter_yes q e

  pub kept_no : (q : A → Bool) (out : List A) → q x ≡ false → out ≡ filter q (take i xs) →
      out ≡ filter q (take (i + 1) xs)
  kept_no q out e inv = inv ∙ filter_no q e

  -- cut out where something is so
  pub cut_where : (p : A → Bool) (s old now new : Bool) → now ≡ (old && not (s && list_any p (take i xs))) →
      new ≡ (now && not (s && p x)) → new ≡ (old && not (s && list_any p (take (i + 1) xs)))
  cut_where p s old now new inv cut =
      cut ∙ ap (λ t. t && not (s && p x)) inv ∙ cut_same old s (list_any p (take i xs)) (p x)
      ∙ ap (λ t. old && not (s && t)) (any_next p)

  pub behind_yes : {B : Type 0} (base out : List B) (f : A → B) (q : A → Bool) → q x ≡ true →
      out ≡ base ++ map f (filter q (take i xs)) → out ++ f x ∷ [] ≡ base ++ map f (filter q (take (i + 1) xs))
  behind_yes base out f q e inv =
      ap (λ ys. ys ++ f x ∷ []) inv ∙ joined base (map f (filter q (take i xs))) (f x ∷ [])
      ∙ ap (λ ys. base ++ ys) (sym (map_joined f (filter q (take i xs)) x) ∙ ap (map f) (filter_yes q e))

  pub behind_no : {B : Type 0} (base out : List B) (f : A → B) (q : A → Bool) → q x ≡ false →
      out ≡ base ++ map f (filter q (take i xs)) → out ≡ base ++ map f (filter q (take (i + 1) xs))
  behind_no base out f q e inv = inv ∙ ap (λ ys. base ++ map f ys) (filter_no q e)
