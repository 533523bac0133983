-- Where the messages of a fileset are looked for.
use Rattle.std.proofs.Common.{◌≡◌, ℕ, ◌<◌, ◌≤◌, suc, zero, ◌+◌, ◌-◌, Bool, true, false, not, cond, ◌&&◌, ◌||◌, ◌==◌}
use Rattle.std.proofs.Common.{List, [], ◌∷◌, ◌++◌, length, take, drop, get_or, Option, Some, None}
use Rattle.std.proofs.Common.{refl, sym, ap, subst, ◌∙◌, arith, eqb-true}
use Rattle.std.specs.Prelude.{slice_get, slice_set}
use Rattle.std.specs.List.{find, list_any, position}
use Rattle.std.specs.Option.{option_map_or}
use Rattle.base_types.specs.declared.ids.FilesetId.{FilesetId}
use Rattle.message_types.specs.declared.message.Message.{Message}
use Rattle.host_gives.specs.Giving.{is_numbered, is_of, number_of, without}
use Rattle.host_gives.specs.Slots.{AreStarts, IsStart, held_in, holds, is_start, start_of}
use Rattle.host_gives.specs.declared.slots.Start.{Start}
use Rattle.host_gives.proofs.Emptied.{at_the_first, past_all}
use Rattle.host_gives.proofs.Places.{at_none, at_place, place}

either_false : (a b : Bool) → (a || b) ≡ false → (a ≡ false) × (b ≡ false)
either_false true b e = absurd (cc)
either_false false b e = (refl, e)

neither : (a b : Bool) → a ≡ false → b ≡ false → (a || b) ≡ false
neither true b e k = absurd (cc)
neither false b e k = k

plus_zero : (n : ℕ) → n ≡ 0 + n
plus_zero n = omega arith

minus_zero : (n : ℕ) → n - 0 ≡ n
minus_zero n = omega arith

one_more : (m : ℕ) → suc m ≡ m + 1
one_more m = omega arith

one_less : (m n : ℕ) → suc m - suc n ≡ m - n
one_less m n = omega arith

module _ {X : Type 0} (p : X → Bool) where
  -- what is looked for behind some in which it isn't
  pub find_behind : (n : ℕ) (xs : List X) → list_any p (take n xs) ≡ false → find p (drop n xs) ≡ find p xs
  find_behind zero xs e = refl
  find_behind (suc n) [] e = refl
  find_behind (suc n) (x ∷ xs) e =
      let k = either_false (p x) (list_any p (take n xs)) e in
      find_behind n xs k.1 ∙ sym (ap (λ t. cond t (Some x) (find p xs)) k.0)

  place_behind : (n : ℕ) (xs : List X) → n ≤ length xs → list_any p (take n xs) ≡ false →
      place p xs ≡ n + place p (drop n xs)
  place_behind zero xs l e = plus_zero (place p xs)
  place_behind (suc n) [] l e = absurd (omega (arith, l))
  place_behind (suc n) (x ∷ xs) l e =
      let k = either_false (p x) (list_any p (take n xs)) e in
      let r = place_behind n xs (omega (arith, l)) k.1 in
      ap (λ t. cond (not t) (1 + place p xs) 0) k.0 ∙ omega (arith, r)

  length_behind : (n : ℕ) (xs : List X) → n ≤ length xs → length xs ≡ n + length (drop n xs)
  length_behind zero xs l = plus_zero (length xs)
  length_behind (suc n) [] l = absurd (omega (arith, l))
  length_behind (suc n) (x ∷ xs) l = let r = length_behind n xs (omega (arith, l)) in omega (arith, r)

  -- none among some, nor among those behind them
  pub none_further : (n m : ℕ) (xs : List X) → n ≤ m → list_any p (take n xs) ≡ false →
      list_any p (take (m - n) (drop n xs)) ≡ false → list_any p (take m xs) ≡ false
  none_further zero m xs l e k = subst (λ j. list_any p (take j xs) ≡ false) (minus_zero m) k
  none_further (suc n) zero xs l e k = absurd (omega (arith, l))
  none_further (suc n) (suc m) [] l e k = refl
  none_further (suc n) (suc m) (x ∷ xs) l e k =
      let j = either_false (p x) (list_any p (take n xs)) e in
      neither (p x) (list_any p (take m xs)) j.0 (none_further n m xs (omega (arith, l)) j.1
      (subst (λ i. list_any p (take i (drop n xs)) ≡ false) (one_less m n) k))

module _ (test : Message → Bool) where
  pub none_more : (m : ℕ) (xs : List (Option Message)) → slice_get xs m ≡ Some None →
      list_any (holds test) (take m xs) ≡ false → list_any (holds test) (take (suc m) xs) ≡ false
  none_more zero [] at e = absurd (cc)
  none_more zero (None ∷ xs) at e = refl
  none_more zero (Some x ∷ xs) at e = absurd (cc)
  none_more (suc m) [] at e = refl
  none_more (suc m) (x ∷ xs) at e =
      let j = either_false (holds test x) (list_any (holds test) (take m xs)) e in
      neither (holds test x) (list_any (holds test) (take (suc m) xs)) j.0 (none_more m xs at j.1)

  still_none : (n i : ℕ) (xs : List (Option Message)) → list_any (holds test) (take n xs) ≡ false →
      list_any (holds test) (take n (slice_set xs i None)) ≡ false
  still_none zero i xs e = refl
  still_none (suc n) i [] e = refl
  still_none (suc n) zero (x ∷ xs) e = (either_false (holds test x) (list_any (holds test) (take n xs)) e).1
  still_none (suc n) (suc i) (x ∷ xs) e =
      let j = either_false (holds test x) (list_any (holds test) (take n xs)) e in
      neither (holds test x) (list_any (holds test) (take n (slice_set xs i None))) j.0 (still_none n i xs j.1)

  -- what is taken out behind some of which none passes
  pub taken_behind : (n i : ℕ) (xs : List (Option Message)) (x : Option Message) → n ≤ length xs →
      list_any (holds test) (take n xs) ≡ false → position (holds test) (drop n xs) ≡ Some i →
      x ≡ get_or xs (n + i) x →
      (x ≡ find test (held_in xs)) × (held_in (slice_set xs (n + i) None) ≡ without test (held_in xs))
  taken_behind n i xs x l e at is =
      let k = at_place (holds test) (drop n xs) i at in
      let a = place_behind (holds test) n xs l e in
      let b = length_behind (holds test) n xs l in
      at_the_first test xs (n + i) x (omega (arith, k.0, a, b)) (omega (arith, k.1, a)) is

  pub low_behind : (n i : ℕ) (xs : List (Option Message)) → n ≤ length xs →
      position (holds test) (drop n xs) ≡ Some i → n + i < length xs
  low_behind n i xs l at =
      let k = at_place (holds test) (drop n xs) i at in
      let b = length_behind (holds test) n xs l in omega (arith, k.0, k.1, b)

  pub nowhere_behind : (n : ℕ) (xs : List (Option Message)) → n ≤ length xs →
      list_any (holds test) (take n xs) ≡ false → position (holds test) (drop n xs) ≡ None →
      (None ≡ find test (held_in xs)) × (held_in xs ≡ without test (held_in xs))
  nowhere_behind n xs l e at =
      let k = at_none (holds test) (drop n xs) at in
      let a = place_behind (holds test) n xs l e in
      let b = length_behind (holds test) n xs l in past_all test xs (omega (arith, k, a, b))

-- none of a fileset, so none of its numbers
pub none_numbered : (fileset : FilesetId) (number : ℕ) (xs : List (Option Message)) →
    list_any (holds (is_of fileset)) xs ≡ false → list_any (holds (is_numbered fileset number)) xs ≡ false
none_numbered fileset number [] e = refl
none_numbered fileset number (None ∷ xs) e = none_numbered fileset number xs e
none_numbered fileset number (Some m ∷ xs) e =
    let j = either_false (is_of fileset m) (list_any (holds (is_of fileset)) xs) e in
    neither (is_numbered fileset number m) (list_any (holds (is_numbered fileset number)) xs)
    (ap (λ t. t && (number_of m == number)) j.0) (none_numbered fileset number xs j.1)

pub length_set : {X : Type 0} (xs : List X) (i : ℕ) (x : X) → length (slice_set xs i x) ≡ length xs
length_set [] i x = refl
length_set (y ∷ ys) zero x = refl
length_set (y ∷ ys) (suc i) x = ap suc (length_set ys i x)

take_front : {X : Type 0} (n : ℕ) (xs ys : List X) → n ≤ length xs → take n (xs ++ ys) ≡ take n xs
take_front zero xs ys l = refl
take_front (suc n) [] ys l = absurd (omega (arith, l))
take_front (suc n) (x ∷ xs) ys l = ap (λ zs. x ∷ zs) (take_front n xs ys (omega (arith, l)))

length_front : {X : Type 0} (xs ys : List X) (n : ℕ) → n ≤ length xs → n ≤ length (xs ++ ys)
length_front xs ys zero l = omega arith
length_front [] ys (suc n) l = absurd (omega (arith, l))
length_front (x ∷ xs) ys (suc n) l = let r = length_front xs ys n (omega (arith, l)) in omega (arith, r)

-- starts stay right where a slot is emptied, and where one is added
pub right_emptied : (xs : List (Option Message)) (i : ℕ) (starts : List Start) → AreStarts xs starts →
    AreStarts (slice_set xs i None) starts
right_emptied xs i [] r = r
right_emptied xs i (s ∷ starts) r = (
  (
    subst (λ n. s.slot ≤ n) (sym (length_set xs i None)) r.0.0,
    still_none (is_of s.fileset) s.slot i xs r.0.1,
  ),
  right_emptied xs i starts r.1,
)

pub right_added : (xs ys : List (Option Message)) (starts : List Start) → AreStarts xs starts →
    AreStarts (xs ++ ys) starts
right_added xs ys [] r = r
right_added xs ys (s ∷ starts) r = (
  (
    length_front xs ys s.slot r.0.0,
    ap (list_any (holds (is_of s.fileset))) (take_front s.slot xs ys r.0.0) ∙ r.0.1,
  ),
  right_added xs ys starts r.1,
)

pub right_put : (xs : List (Option Message)) (s : Start) (starts : List Start) (i : ℕ) → IsStart xs s →
    AreStarts xs starts → AreStarts xs (slice_set starts i s)
right_put xs s [] i is r = r
right_put xs s (t ∷ starts) zero is r = (is, r.1)
right_put xs s (t ∷ starts) (suc i) is r = (r.0, right_put xs s starts i is r.1)

pub right_pushed : (xs : List (Option Message)) (s : Start) (starts : List Start) → IsStart xs s →
    AreStarts xs starts → AreStarts xs (starts ++ s ∷ [])
right_pushed xs s [] is r = (is, r)
right_pushed xs s (t ∷ starts) is r = (r.0, right_pushed xs s starts is r.1)

-- where a fileset's messages are looked for, none stands before
pub start_right : (xs : List (Option Message)) (starts : List Start) (fileset : FilesetId) → AreStarts xs starts →
    IsStart xs (record { fileset = fileset; slot = start_of starts fileset })
start_right xs [] fileset r = (omega arith, refl)
start_right xs (s ∷ starts) fileset r = by_test (s.fileset.0 == fileset.0) refl (start_right xs starts fileset r.1)
  where
    by_test : (b : Bool) → (s.fileset.0 == fileset.0) ≡ b →
        IsStart xs (record { fileset = fileset; slot = start_of starts fileset }) → IsStart xs (record {
          fileset = fileset;
          slot = option_map_or (λ start. start.slot) (cond b (Some s) (find (is_start fileset) starts)) 0;
        })
    by_test true e rest =
        let same : s.fileset ≡ fileset = (let i = eqb-true s.fileset.0 fileset.0 e in λ j. record { 0 = i j }) in
        subst (λ f. IsStart xs (record { fileset = f; slot = s.slot })) same r.0
    by_test false e rest = rest

-- where a search begins: none stands before
pub looked_from : (xs ys : List (Option Message)) (starts stored : List Start) (fileset : FilesetId) (n : ℕ) →
    stored ≡ starts → n ≡ start_of stored fileset → ys ≡ xs → AreStarts xs starts →
    (n ≤ length ys) × (list_any (holds (is_of fileset)) (take n ys) ≡ false)
looked_from xs ys starts stored fileset n s e y are =
    subst (λ zs. (n ≤ length zs) × (list_any (holds (is_of fileset)) (take n zs) ≡ false)) (sym y)
    (subst (λ k. (k ≤ length xs) × (list_any (holds (is_of fileset)) (take k xs) ≡ false))
    (sym (e ∙ ap (λ zs. start_of zs fileset) s)) (start_right xs starts fileset are))

pub set_there : {X : Type 0} (xs : List X) (i : ℕ) (x : X) → i < length xs → slice_get (slice_set xs i x) i ≡ Some x
set_there [] i x lt = absurd (omega (arith, lt))
set_there (y ∷ ys) zero x lt = refl
set_there (y ∷ ys) (suc i) x lt = set_there ys i x (omega (arith, lt))

-- behind an empty slot, where none stands before it
pub moved : (xs : List (Option Message)) (starts : List Start) (fileset : FilesetId) (n m : ℕ) → n ≤ m →
    m < length xs → slice_get xs m ≡ Some None → n ≡ start_of starts fileset → AreStarts xs starts →
    list_any (holds (is_of fileset)) (take (m - n) (drop n xs)) ≡ false →
    IsStart xs (record { fileset = fileset; slot = m + 1 })
moved xs starts fileset n m le lt at e are between =
    let from = looked_from xs xs starts starts fileset n refl e refl are in
    let is : IsStart xs (record { fileset = fileset; slot = suc m }) = (
      omega (arith, lt),
      none_more (is_of fileset) m xs at (none_further (holds (is_of fileset)) n m xs le from.1 between),
    ) in
    subst (λ k. IsStart xs (record { fileset = fileset; slot = k })) (one_more m) is
