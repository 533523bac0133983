-- Lists in which elements that pass a test are found, taken out and brought to the front.
use Rattle.std.proofs.Common.{◌≡◌, ◌≤◌, ◌<◌, ℕ, zero, suc, ◌-◌, Bool, true, false, not, cond, ◌||◌, ◌&&◌, List, []}
use Rattle.std.proofs.Common.{◌∷◌, ◌++◌, map, length, take, drop, get_or, Some}
use Rattle.std.proofs.Common.{None, is_some, refl, sym, ap, ◌∙◌, arith, length-append, true≢false}
use Rattle.std.specs.List.{find, filter, list_any}
use Rattle.std.specs.Option.{option_map_or}
use Rattle.std.proofs.lemmas.Bool.{cases_Bool}
use Rattle.std.proofs.lemmas.List.Elements.{filter-append}
use borrow.Rule.Slice.PartMut.{put_mid}
use Rattle.host_cache.specs.Holding.{first_by, last_of}

or_regrouped : (a b c : Bool) → ((a || b) || c) ≡ (a || (b || c))
or_regrouped true b c = refl
or_regrouped false b c = refl

or_turned : (a b c : Bool) → (a || (b || c)) ≡ (b || (a || c))
or_turned true true c = refl
or_turned true false c = refl
or_turned false b c = refl

module _ {X : Type 0} (p : X → Bool) where
  -- none passes
  pub none_kept : (xs : List X) → length (filter p xs) ≡ 0 → filter (λ x. not (p x)) xs ≡ xs
  none_kept [] h = refl
  none_kept (x ∷ xs) h = grind (arith, cases_Bool (p x), none_kept xs)

  pub none_found : (xs : List X) → length (filter p xs) ≡ 0 → find p xs ≡ None
  none_found [] h = refl
  none_found (x ∷ xs) h = grind (arith, cases_Bool (p x), none_found xs)

  pub none_passes : (xs : List X) → find p xs ≡ None → length (filter p xs) ≡ 0
  none_passes [] h = refl
  none_passes (x ∷ xs) h =
      (elim (p x) as (λ b. cond b (Some x) (find p xs) ≡ None → length (cond b (x ∷ filter p xs) (filter p xs)) ≡ 0) [
        | true ↦ λ k. absurd (grind (arith, k))
        | false ↦ λ k. none_passes xs k
      ]) h

  pub none_any : (xs : List X) → list_any p xs ≡ false → find p xs ≡ None
  none_any [] h = refl
  none_any (x ∷ xs) h =
      (elim (p x) as (λ b. (b || list_any p xs) ≡ false → cond b (Some x) (find p xs) ≡ None) [
        | true ↦ λ k. absurd (true≢false k)
        | false ↦ λ k. none_any xs k
      ]) h

  pub any_found : (xs : List X) → is_some (find p xs) ≡ list_any p xs
  any_found [] = refl
  any_found (x ∷ xs) =
      elim (p x) as (λ b. is_some (cond b (Some x) (find p xs)) ≡ (b || list_any p xs)) [
        | true ↦ refl
        | false ↦ any_found xs
      ]

  -- what passes two tests is no more than what passes one
  pub fewer : (q : X → Bool) (xs : List X) → length (filter p (filter q xs)) ≤ length (filter p xs)
  fewer q [] = omega arith
  fewer q (x ∷ xs) = grind (arith, cases_Bool (p x), cases_Bool (q x), fewer q xs)

  -- the element that passes first, before the others that don't
  abbrev pub found_first : List X → List X
  found_first xs = option_map_or (λ x. x ∷ filter (λ y. not (p y)) xs) (find p xs) xs

  pub found_between : (ls : List X) (x : X) (cs : List X) → p x ≡ true → length (filter p ls) ≡ 0 →
      find p (ls ++ x ∷ cs) ≡ Some x
  found_between [] x cs h none = ap (λ b. cond b (Some x) (find p cs)) h
  found_between (a ∷ ls) x cs h none = grind (arith, cases_Bool (p a), found_between ls x cs, none, h)

  pub kept_between : (ls : List X) (x : X) (cs : List X) → p x ≡ true → length (filter p ls) ≡ 0 →
      length (filter p cs) ≡ 0 → filter (λ y. not (p y)) (ls ++ x ∷ cs) ≡ ls ++ cs
  kept_between ls x cs h none rest =
      filter-append (λ y. not (p y)) ls (x ∷ cs)
      ∙ (λ i. none_kept ls none i ++ cond (not (h i)) (x ∷ none_kept cs rest i) (none_kept cs rest i))

  pub first_between : (ls : List X) (x : X) (cs : List X) → p x ≡ true → length (filter p ls) ≡ 0 →
      length (filter p cs) ≡ 0 → found_first (ls ++ x ∷ cs) ≡ x ∷ (ls ++ cs)
  first_between ls x cs h none rest =
      ap (λ o. option_map_or (λ y. y ∷ filter (λ y. not (p y)) (ls ++ x ∷ cs)) o (ls ++ x ∷ cs))
      (found_between ls x cs h none)
      ∙ ap (λ ys. x ∷ ys) (kept_between ls x cs h none rest)

  -- any passes, whatever stands first
  pub any_first : (test : X → Bool) (xs : List X) → list_any p (first_by test xs) ≡ list_any p xs
  any_first test xs = any_append (filter test xs) (filter (λ x. not (test x)) xs) ∙ parted xs
    where
      any_append : (ls bs : List X) → list_any p (ls ++ bs) ≡ (list_any p ls || list_any p bs)
      any_append [] bs = refl
      any_append (a ∷ ls) bs =
          ap (λ b. p a || b) (any_append ls bs) ∙ sym (or_regrouped (p a) (list_any p ls) (list_any p bs))

      parted : (ys : List X) →
          (list_any p (filter test ys) || list_any p (filter (λ x. not (test x)) ys)) ≡ list_any p ys
      parted [] = refl
      parted (y ∷ ys) =
          let f = filter test ys in
          let g = filter (λ x. not (test x)) ys in
          elim (test y) as (λ t. (list_any p (cond t (y ∷ f) f) || list_any p (cond (not t) (y ∷ g) g))
          ≡ (p y || list_any p ys)) [
            | true ↦ or_regrouped (p y) (list_any p f) (list_any p g) ∙ ap (λ b. p y || b) (parted ys)
            | false ↦ or_turned (list_any p f) (p y) (list_any p g) ∙ ap (λ b. p y || b) (parted ys)
          ]

  -- any passes among those that are kept, where each that passes is kept
  pub any_kept : (q : X → Bool) → ((x : X) → p x ≡ true → q x ≡ true) → (xs : List X) →
      list_any p (filter q xs) ≡ list_any p xs
  any_kept q keeps [] = refl
  any_kept q keeps (x ∷ xs) =
      let rest = any_kept q keeps xs in
      elim (p x) as (λ b. p x ≡ b → list_any p (filter q (x ∷ xs)) ≡ (b || list_any p xs)) [
        | true ↦ λ e. ap (λ b. list_any p (cond b (x ∷ filter q xs) (filter q xs))) (keeps x e)
            ∙ ap (λ b. b || list_any p (filter q xs)) e
        | false ↦ λ e. dropped x xs e ∙ rest
      ] refl
    where
      dropped : (x : X) (xs : List X) → p x ≡ false → list_any p (filter q (x ∷ xs)) ≡ list_any p (filter q xs)
      dropped x xs e = elim (q x) as (λ b. list_any p (cond b (x ∷ filter q xs) (filter q xs))
          ≡ list_any p (filter q xs)) [
            | true ↦ ap (λ b. b || list_any p (filter q xs)) e
            | false ↦ refl
          ]

  -- any passes among those that are kept, where nothing is known of the two tests
  pub any_filter : (q : X → Bool) (xs : List X) → list_any p (filter q xs) ≡ list_any (λ x. q x && p x) xs
  any_filter q [] = refl
  any_filter q (x ∷ xs) =
      elim (q x) as (λ b. list_any p (cond b (x ∷ filter q xs) (filter q xs))
      ≡ ((b && p x) || list_any (λ y. q y && p y) xs)) [
        | true ↦ ap (λ b. p x || b) (any_filter q xs)
        | false ↦ any_filter q xs
      ]

-- two tests in either order
pub filters_turned : {X : Type 0} (p q : X → Bool) (xs : List X) → filter p (filter q xs) ≡ filter q (filter p xs)
filters_turned p q [] = refl
filters_turned p q (x ∷ xs) =
    elim (p x) as (λ b. p x ≡ b → filter p (filter q (x ∷ xs)) ≡ filter q (cond b (x ∷ filter p xs) (filter p xs))) [
      | true ↦ λ e. elim (q x) as (λ c. q x ≡ c →
          filter p (cond c (x ∷ filter q xs) (filter q xs)) ≡ cond c (x ∷ filter q (filter p xs)) (filter q (filter p
          xs))) [
            | true ↦ λ f. ap (λ b. cond b (x ∷ filter p (filter q xs)) (filter p (filter q xs))) e
                ∙ ap (λ ys. x ∷ ys) (filters_turned p q xs)
            | false ↦ λ f. filters_turned p q xs
          ] refl
      | false ↦ λ e. elim (q x) as (λ c. filter p (cond c (x ∷ filter q xs) (filter q xs)) ≡ filter q (filter p xs)) [
        | true ↦ ap (λ b. cond b (x ∷ filter p (filter q xs)) (filter p (filter q xs))) e ∙ filters_turned p q xs
        | false ↦ filters_turned p q xs
      ]
    ] refl

pub filter-map : {X Y : Type 0} (p : Y → Bool) (f : X → Y) (xs : List X) →
    filter p (map f xs) ≡ map f (filter (λ x. p (f x)) xs)
filter-map p f [] = refl
filter-map p f (x ∷ xs) =
    let g = filter (λ y. p (f y)) xs in
    elim (p (f x)) as (λ b. cond b (f x ∷ filter p (map f xs)) (filter p (map f xs)) ≡ map f (cond b (x ∷ g) g)) [
      | true ↦ ap (λ l. f x ∷ l) (filter-map p f xs)
      | false ↦ filter-map p f xs
    ]

pub map-append : {X Y : Type 0} (f : X → Y) (ls bs : List X) → map f (ls ++ bs) ≡ map f ls ++ map f bs
map-append f [] bs = refl
map-append f (a ∷ ls) bs = ap (λ ys. f a ∷ ys) (map-append f ls bs)

pub any-map : {X Y : Type 0} (p : Y → Bool) (f : X → Y) (xs : List X) →
    list_any p (map f xs) ≡ list_any (λ x. p (f x)) xs
any-map p f [] = refl
any-map p f (x ∷ xs) = ap (λ b. p (f x) || b) (any-map p f xs)

-- what passes a test stays among itself where others are brought to the front
pub kept_first : {X : Type 0} (p test : X → Bool) (xs : List X) → filter p (first_by test xs)
    ≡ first_by test (filter p xs)
kept_first p test xs =
    filter-append p (filter test xs) (filter (λ x. not (test x)) xs)
    ∙ (λ i. filters_turned p test xs i ++ filters_turned p (λ x. not (test x)) xs i)

-- where none passes, nothing is brought to the front
pub none_first : {X : Type 0} (test : X → Bool) (xs : List X) → length (filter test xs) ≡ 0 → first_by test xs ≡ xs
none_first test xs none = (λ i. empty (filter test xs) none i ++ none_kept test xs none i)
  where
    empty : {X : Type 0} (ys : List X) → length ys ≡ 0 → ys ≡ []
    empty [] e = refl
    empty (y ∷ ys) e = absurd (omega (arith, e))

pub map_first : {X Y : Type 0} (f : X → Y) (test : Y → Bool) (xs : List X) →
    first_by test (map f xs) ≡ map f (first_by (λ x. test (f x)) xs)
map_first f test xs =
    (λ i. filter-map test f xs i ++ filter-map (λ y. not (test y)) f xs i)
    ∙ sym (map-append f (filter (λ x. test (f x)) xs) (filter (λ x. not (test (f x))) xs))

-- parts of a list that is put together
pub take_front : {X : Type 0} (ls bs : List X) → take (length ls) (ls ++ bs) ≡ ls
take_front [] bs = refl
take_front (a ∷ ls) bs = ap (λ ys. a ∷ ys) (take_front ls bs)

pub drop_front : {X : Type 0} (ls bs : List X) → drop (length ls) (ls ++ bs) ≡ bs
drop_front [] bs = refl
drop_front (a ∷ ls) bs = drop_front ls bs

-- the last element
pub last_push : {X : Type 0} (xs : List X) (x : X) → last_of (xs ++ x ∷ []) ≡ Some x
last_push [] x = refl
last_push (y ∷ []) x = refl
last_push (y ∷ z ∷ xs) x = last_push (z ∷ xs) x

-- a list from a place on
pub drop_here : {X : Type 0} (xs : List X) (i : ℕ) (x : X) → i < length xs → x ≡ get_or xs i x →
    drop i xs ≡ x ∷ drop (suc i) xs
drop_here [] i x lt e = absurd (omega (arith, lt))
drop_here (y ∷ ys) zero x lt e = ap (λ z. z ∷ ys) (sym e)
drop_here (y ∷ ys) (suc i) x lt e = drop_here ys i x (omega (arith, lt)) e

pub fewer_pass : {X : Type 0} (p : X → Bool) (xs : List X) → length (filter p xs) ≤ length xs
fewer_pass p [] = omega arith
fewer_pass p (x ∷ xs) = grind (arith, cases_Bool (p x), fewer_pass p xs)

-- the element behind the middle part of a list goes before it
module _ {X : Type 0} (xs ys zs : List X) (x : X) where
  abbrev whole : List X
  whole = xs ++ (ys ++ x ∷ zs)

  abbrev part : List X
  part = take (suc (length ys)) (drop (length xs) whole)

  part_is : part ≡ ys ++ x ∷ []
  part_is = ap (take (suc (length ys))) (drop_front xs (ys ++ x ∷ zs)) ∙ first_more ys
    where
      first_more : (ls : List X) → take (suc (length ls)) (ls ++ x ∷ zs) ≡ ls ++ x ∷ []
      first_more [] = refl
      first_more (l ∷ ls) = ap (λ ms. l ∷ ms) (first_more ls)

  rest_is : drop (suc (length ys)) (drop (length xs) whole) ≡ zs
  rest_is = ap (drop (suc (length ys))) (drop_front xs (ys ++ x ∷ zs)) ∙ rest_more ys
    where
      rest_more : (ls : List X) → drop (suc (length ls)) (ls ++ x ∷ zs) ≡ zs
      rest_more [] = refl
      rest_more (l ∷ ls) = rest_more ls

  turned : (new : List X) → new ≡ drop (length part - 1) part ++ take (length part - 1) part → new ≡ x ∷ ys
  turned new e =
      let size : length part - 1 ≡ length ys =
      ap (λ (l : List X). length l - 1) part_is
      ∙ (let k = length-append ys (x ∷ []) in omega (arith, k)) in
      e ∙ (λ i. drop (size i) (part_is i) ++ take (size i) (part_is i))
      ∙ (λ i. drop_front ys (x ∷ []) i ++ take_front ys (x ∷ []) i)

  -- the list after the part was turned by one
  pub moved_front : (k m : ℕ) (new : List X) → k ≡ length xs → m ≡ suc (length ys) →
      new ≡ drop (length part - 1) part ++ take (length part - 1) part →
      put_mid k m whole new ≡ xs ++ (x ∷ (ys ++ zs))
  moved_front k m new at many is =
      (λ i. put_mid (at i) (many i) whole (turned new is i))
      ∙ (λ i. take_front xs (ys ++ x ∷ zs) i ++ ((x ∷ ys) ++ rest_is i))
