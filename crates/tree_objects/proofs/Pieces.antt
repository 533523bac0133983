-- Stretches of unsaved bytes: how they are added, cut and split.
use Rattle.std.proofs.Common.{◌≡◌, ℕ, zero, suc, ◌+◌, ◌-◌, ◌<◌, ◌≤◌, ◌==◌, nat_le, nat_lt, true, false, List, [], ◌∷◌}
use Rattle.std.proofs.Common.{◌++◌, length, filter, take, drop, min, Some, None, refl, sym, ap, ◌∙◌, arith, inl, inr}
use Rattle.std.proofs.Common.{rules}
use Rattle.std.specs.List.{list_all, slice_get}
use Rattle.std.specs.Option.{is_some, option_map, unwrap_or}
use Rattle.std.proofs.Math.Seq.{drop-nil}
use Rattle.std.proofs.lemmas.List.{append-nil, length-drop}
use Rattle.std.proofs.lemmas.Grind.{common_steps, flat_map-append}
use Rattle.std.proofs.lemmas.Bool.Decides.{leb_tells}
use Rattle.base_types.specs.declared.ids.HostId.{HostId}
use Rattle.base_types.specs.declared.limits.TheConstants.{FILE_BYTES_MAX}
use Rattle.tree_objects.specs.declared.content.Unsaved.{Unsaved}
use Rattle.tree_objects.specs.declared.stretch.Stretch.{Stretch}
use Rattle.tree_objects.specs.Positions.{written}
use Rattle.tree_objects.specs.Stretches.{bytes_of, all_bytes, is_stretch}
use Rattle.tree_objects.proofs.Observed.{and_left, and_right}
use Rattle.tree_objects.proofs.Overlays.{drop_past}
use Rattle.tree_objects.proofs.Rising.{and_both, all_append}

-- a stretch has a byte
pub some_of : (stretch : Stretch) → is_stretch stretch ≡ true → 0 < length stretch.bytes
some_of stretch h = let some : nat_lt 0 (length stretch.bytes) ≡ true = and_left _ _ h in grind
    (arith, common_steps, some)

-- and none behind the last that a file can have
pub within_of : (stretch : Stretch) → is_stretch stretch ≡ true → stretch.from + length stretch.bytes ≤ FILE_BYTES_MAX
within_of stretch h =
    let within : nat_le (stretch.from + length stretch.bytes) FILE_BYTES_MAX ≡ true = and_right _ _ h in grind
    (arith, common_steps, within)

pub made_of : (stretch : Stretch) → 0 < length stretch.bytes → stretch.from + length stretch.bytes ≤ FILE_BYTES_MAX
    → is_stretch stretch ≡ true
made_of stretch some within =
    let one : nat_lt 0 (length stretch.bytes) ≡ true = grind (arith, common_steps, some) in
    let two : nat_le (stretch.from + length stretch.bytes) FILE_BYTES_MAX ≡ true = grind
    (arith, common_steps, within) in
    and_both _ _ one two

-- its first byte
pub first_of : (stretch : Stretch) → slice_get (bytes_of stretch) 0 ≡ option_map
    (λ value. record { at = stretch.from; value = value; writer = stretch.writer }) (slice_get stretch.bytes 0)
first_of stretch = by_bytes stretch.bytes
  where
    by_bytes : (bytes : List ℕ) → slice_get (written stretch.writer stretch.from bytes) 0 ≡ option_map
        (λ value. record { at = stretch.from; value = value; writer = stretch.writer }) (slice_get bytes 0)
    by_bytes [] = refl
    by_bytes (x ∷ xs) = refl

-- the first byte of all is that of the first stretch
in_front : (t : Stretch) (more : List Unsaved) → is_stretch t ≡ true → slice_get (bytes_of t ++ more) 0 ≡ slice_get
    (bytes_of t) 0
in_front t more k = by_bytes t.bytes (some_of t k)
  where
    by_bytes : (bytes : List ℕ) → 0 < length bytes → slice_get (written t.writer t.from bytes ++ more) 0 ≡ slice_get
        (written t.writer t.from bytes) 0
    by_bytes [] l = absurd (omega (arith, l))
    by_bytes (x ∷ xs) l = refl

pub first_some : (ss : List Stretch) (s : Stretch) → list_all is_stretch ss ≡ true → slice_get ss 0 ≡ Some s
    → slice_get (all_bytes ss) 0 ≡ slice_get (bytes_of s) 0
first_some [] s h e = let k : false ≡ true = ap is_some e in absurd (search (rules, k))
first_some (t ∷ ts) s h e =
    let same : t ≡ s = ap (λ o. unwrap_or o t) e in
    in_front t (all_bytes ts) (and_left _ _ h) ∙ ap (λ x. slice_get (bytes_of x) 0) same

pub first_none : (ss : List Stretch) → slice_get ss 0 ≡ None → slice_get (all_bytes ss) 0 ≡ None
first_none [] e = refl
first_none (s ∷ ss) e = let k : true ≡ false = ap is_some e in absurd (search (rules, k))

-- there are no bytes where there are no stretches
pub empty_alike : (ss : List Stretch) → list_all is_stretch ss ≡ true → (length ss == 0) ≡ (length (all_bytes ss) == 0)
empty_alike [] h = refl
empty_alike (s ∷ ss) h =
    let none : (suc (length ss) == 0) ≡ false = grind (arith, common_steps) in
    none ∙ sym (by_bytes s.bytes (some_of s (and_left _ _ h)))
  where
    by_bytes : (bytes : List ℕ) → 0 < length bytes → (length (written s.writer s.from bytes ++ all_bytes ss) == 0)
        ≡ false
    by_bytes [] l = absurd (omega (arith, l))
    by_bytes (x ∷ xs) l = grind (arith, common_steps)

-- one stretch more
pub one_more : (list next : List Stretch) (stretch : Stretch) → next ≡ list ++ stretch ∷ [] → all_bytes next
    ≡ all_bytes list ++ bytes_of stretch
one_more list next stretch e = ap all_bytes e ∙ flat_map-append bytes_of list (stretch ∷ []) ∙ ap
    (λ bytes. all_bytes list ++ bytes) (append-nil (bytes_of stretch))

pub each_more : (list next : List Stretch) (stretch : Stretch) → next ≡ list ++ stretch ∷ [] → is_stretch stretch
    ≡ true → list_all is_stretch list ≡ true → list_all is_stretch next ≡ true
each_more list next stretch e k h = ap (list_all is_stretch) e ∙ all_append is_stretch list (stretch ∷ []) h
    (and_both _ _ k refl)

-- nothing is written where there are no bytes
pub none_more : (list : List Stretch) (host : HostId) (from : ℕ) (bytes : List ℕ) → length bytes ≡ 0 → all_bytes list
    ≡ all_bytes list ++ written host from bytes
none_more list host from [] e = sym (append-nil (all_bytes list))
none_more list host from (x ∷ xs) e = absurd (omega (arith, e))

-- the first of no bytes
pub take_nil : (n : ℕ) → ◌≡◌ {A = List ℕ} (take n []) []
take_nil zero = refl
take_nil (suc n) = refl

-- some behind others
pub drop_more : {X : Type 0} (xs : List X) (i k : ℕ) → drop (i + k) xs ≡ drop k (drop i xs)
drop_more xs zero k = let z : zero + k ≡ k = omega arith in rw z refl
drop_more [] (suc i) k = drop-nil (suc i + k) ∙ sym (drop-nil k)
drop_more (x ∷ xs) (suc i) k = let z : suc i + k ≡ suc (i + k) = omega arith in rw z (drop_more xs i k)

-- more than there are
pub take_past : (xs : List ℕ) (n : ℕ) → take (min n (length xs)) xs ≡ take n xs
take_past [] n = take_nil (min n zero) ∙ sym (take_nil n)
take_past (x ∷ xs) zero = let e : min zero (suc (length xs)) ≡ zero = omega arith in rw e refl
take_past (x ∷ xs) (suc n) = let e : min (suc n) (suc (length xs)) ≡ suc (min n (length xs)) = omega arith in rw e
    (ap (λ ys. x ∷ ys) (take_past xs n))

-- all that is behind some
pub take_whole : {X : Type 0} (xs : List X) (n : ℕ) → length xs ≤ n → take n xs ≡ xs
take_whole [] zero h = refl
take_whole [] (suc n) h = refl
take_whole (x ∷ xs) zero h = absurd (omega (arith, h))
take_whole (x ∷ xs) (suc n) h = ap (λ ys. x ∷ ys) (take_whole xs n (omega (arith, h)))

pub rest_all : {X : Type 0} (xs : List X) (i : ℕ) → take (length xs - i) (drop i xs) ≡ drop i xs
rest_all xs i = let long = length-drop i xs in take_whole (drop i xs) (length xs - i) (omega (arith, long))

pub drop_all : (xs : List ℕ) (n : ℕ) → length xs ≤ n → drop n xs ≡ []
drop_all [] n h = drop-nil n
drop_all (x ∷ xs) zero h = absurd (omega (arith, h))
drop_all (x ∷ xs) (suc n) h = drop_all xs n (omega (arith, h))

-- the written bytes below a position
pub below_written : (host : HostId) (from : ℕ) (bytes : List ℕ) (end : ℕ) → filter (λ byte. nat_lt byte.at end)
    (written host from bytes) ≡ written host from (take (end - from) bytes)
below_written host from [] end = ap (written host from) (sym (take_nil (end - from)))
below_written host from (x ∷ xs) end =
    let more = below_written host (from + 1) xs end in
    elim (leb_tells (suc from) end) as (λ _. filter (λ byte. nat_lt byte.at end) (written host from (x ∷ xs))
    ≡ written host from (take (end - from) (x ∷ xs))) [
      | inl (e, h) ↦
          let t : nat_lt from end ≡ true = grind (arith, common_steps, h) in
          let n : end - from ≡ suc (end - (from + 1)) = omega (arith, h) in
          let first : Unsaved = record { at = from; value = x; writer = host } in
          rw (t, n) (ap (λ bytes. first ∷ bytes) more)
      | inr (e, h) ↦
          let t : nat_lt from end ≡ false = grind (arith, common_steps, h) in
          let n : end - from ≡ zero = omega (arith, h) in
          let m : end - (from + 1) ≡ zero = omega (arith, h) in
          rw (t, n) (more ∙ ap (λ k. written host (from + 1) (take k xs)) m)
    ]

-- and those from a position on
pub above_written : (host : HostId) (from : ℕ) (bytes : List ℕ) (at : ℕ) → filter (λ byte. nat_le at byte.at)
    (written host from bytes) ≡ written host (from + (at - from)) (drop (at - from) bytes)
above_written host from [] at = ap (written host (from + (at - from))) (sym (drop-nil (at - from)))
above_written host from (x ∷ xs) at =
    let more = above_written host (from + 1) xs at in
    elim (leb_tells at from) as (λ _. filter (λ byte. nat_le at byte.at) (written host from (x ∷ xs)) ≡ written host
    (from + (at - from)) (drop (at - from) (x ∷ xs))) [
      | inl (e, h) ↦
          let n : at - from ≡ zero = omega (arith, h) in
          let m : at - (from + 1) ≡ zero = omega (arith, h) in
          let z : from + zero ≡ from = omega arith in
          let y : from + 1 + zero ≡ from + 1 = omega arith in
          let first : Unsaved = record { at = from; value = x; writer = host } in
          let rest : filter (λ byte. nat_le at byte.at) (written host (from + 1) xs) ≡ written host (from + 1) xs
          = more ∙ ap (λ k. written host (from + 1 + k) (drop k xs)) m ∙ ap (λ k. written host k xs) y in
          rw (e, n, z) (ap (λ bytes. first ∷ bytes) rest)
      | inr (e, h) ↦
          let n : at - from ≡ suc (at - (from + 1)) = omega (arith, h) in
          let z : from + 1 + (at - (from + 1)) ≡ from + suc (at - (from + 1)) = omega arith in
          rw (e, n) (more ∙ ap (λ k. written host k (drop (at - (from + 1)) xs)) z)
    ]

-- a stretch's bytes below a position
pub front_of : (stretch : Stretch) (end count : ℕ) → count ≡ min (end - stretch.from) (length stretch.bytes)
    → written stretch.writer (stretch.from + 0) (take (count - 0) (drop 0 stretch.bytes)) ≡ filter
    (λ byte. nat_lt byte.at end) (bytes_of stretch)
front_of stretch end count e =
    let z : stretch.from + 0 ≡ stretch.from = omega arith in
    let n : count - 0 ≡ min (end - stretch.from) (length stretch.bytes) = omega (arith, e) in
    ap (λ k. written stretch.writer k (take (count - 0) stretch.bytes)) z
    ∙ ap (λ k. written stretch.writer stretch.from (take k stretch.bytes)) n
    ∙ ap (written stretch.writer stretch.from) (take_past stretch.bytes (end - stretch.from))
    ∙ sym (below_written stretch.writer stretch.from stretch.bytes end)

written_none : (host : HostId) (p q : ℕ) (bytes : List ℕ) → bytes ≡ [] → written host p bytes ≡ written host q bytes
written_none host p q bytes e = ap (written host p) e ∙ sym (ap (written host q) e)

-- and those from a position on
pub rest_of : (stretch : Stretch) (at skipped : ℕ) → skipped ≡ min (at - stretch.from) (length stretch.bytes)
    → written stretch.writer (stretch.from + skipped) (take (length stretch.bytes - skipped)
    (drop skipped stretch.bytes)) ≡ filter (λ byte. nat_le at byte.at) (bytes_of stretch)
rest_of stretch at skipped e =
    let bytes = stretch.bytes in let n = at - stretch.from in
    let same : drop skipped bytes ≡ drop n bytes = ap (λ k. drop k bytes) e ∙ drop_past bytes n in
    let placed : written stretch.writer (stretch.from + skipped) (drop n bytes) ≡ written stretch.writer
    (stretch.from + n) (drop n bytes)
    = elim (leb_tells n (length bytes)) as (λ _. written stretch.writer (stretch.from + skipped) (drop n bytes)
    ≡ written stretch.writer (stretch.from + n) (drop n bytes)) [
      | inl (f, h) ↦ let m : skipped ≡ n = omega (arith, e, h) in ap
          (λ k. written stretch.writer (stretch.from + k) (drop n bytes)) m
      | inr (f, h) ↦ written_none stretch.writer (stretch.from + skipped) (stretch.from + n) (drop n bytes)
          (drop_all bytes n (omega (arith, h)))
    ] in
    ap (written stretch.writer (stretch.from + skipped)) (rest_all bytes skipped ∙ same) ∙ placed
    ∙ sym (above_written stretch.writer stretch.from bytes at)
