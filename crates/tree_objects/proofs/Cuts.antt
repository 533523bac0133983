-- A part of the stretches in which all bytes of a span stand, and what is put in its place.
use Rattle.std.proofs.Common.{◌≡◌, ℕ, zero, suc, ◌+◌, ◌-◌, ◌<◌, ◌≤◌, ◌==◌, nat_le, nat_lt, Bool, true, false, not}
use Rattle.std.proofs.Common.{List, [], ◌∷◌, ◌++◌, length, filter, take, drop, get_or, max, Option, Some, None}
use Rattle.std.proofs.Common.{append_assoc, refl, sym, ap, ◌∙◌, subst, arith}
use Rattle.std.specs.Prelude.{insert}
use Rattle.std.specs.List.{list_all, splice, AllWithin}
use Rattle.std.specs.List.Sorted.{IsPartitionedBy}
use Rattle.std.specs.Option.{option_map_or, option_or}
use Rattle.std.proofs.Math.Seq.{drop-nil}
use Rattle.std.proofs.lemmas.List.{append-nil}
use Rattle.std.proofs.lemmas.Bool.{le-leb, lt-ltb}
use Rattle.std.proofs.lemmas.List.Elements.{filter-append}
use Rattle.std.proofs.lemmas.List.Folds.{find-append}
use Rattle.std.proofs.lemmas.List.Sorted.{IsPartitionedBy-leb, IsPartitionedBy-ltb}
use Rattle.std.proofs.lemmas.Grind.{common_steps, flat_map-append}
use Rattle.base_types.specs.Image.{byte_at}
use Rattle.base_types.specs.declared.ids.HostId.{HostId}
use Rattle.base_types.specs.declared.limits.TheConstants.{FILE_BYTES_MAX}
use Rattle.tree_objects.specs.declared.content.Unsaved.{Unsaved}
use Rattle.tree_objects.specs.declared.stretch.Stretch.{Stretch}
use Rattle.tree_objects.specs.Changes.{written, unsaved_after}
use Rattle.tree_objects.specs.Cuts.{IsCut}
use Rattle.tree_objects.specs.Files.{unsaved_at, byte_over, bytes_over}
use Rattle.tree_objects.specs.Positions.{positions_rise}
use Rattle.tree_objects.specs.Stretches.{bytes_of, all_bytes, is_stretch, are_stretches, piece_of}
use Rattle.tree_objects.proofs.Observed.{and_left, and_right}
use Rattle.tree_objects.proofs.Rising.{and_both, all_append, all_implied, rise_written, written_from, written_below}
use Rattle.tree_objects.proofs.Pieces.{some_of, drop_more}

-- all of the first list, and all of the second
pub all_front : {X : Type 0} (p : X → Bool) (xs ys : List X) → list_all p (xs ++ ys) ≡ true → list_all p xs ≡ true
all_front p [] ys h = refl
all_front p (x ∷ xs) ys h = and_both _ _ (and_left _ _ h) (all_front p xs ys (and_right _ _ h))

pub all_behind : {X : Type 0} (p : X → Bool) (xs ys : List X) → list_all p (xs ++ ys) ≡ true → list_all p ys ≡ true
all_behind p [] ys h = h
all_behind p (x ∷ xs) ys h = all_behind p xs ys (and_right _ _ h)

rise_behind : (xs ys : List Unsaved) → positions_rise (xs ++ ys) ≡ true → positions_rise ys ≡ true
rise_behind [] ys h = h
rise_behind (x ∷ xs) ys h = rise_behind xs ys (and_right _ _ h)

-- a stretch begins with its first byte
first_lt : (p : ℕ → Bool) (stretch : Stretch) (more : List Unsaved) → is_stretch stretch ≡ true → list_all
    (λ byte. p byte.at) (bytes_of stretch ++ more) ≡ true → p stretch.from ≡ true
first_lt p stretch more k h = by_bytes stretch.bytes (some_of stretch k) h
  where
    by_bytes : (bytes : List ℕ) → 0 < length bytes → list_all (λ byte. p byte.at)
        (written stretch.writer stretch.from bytes ++ more) ≡ true → p stretch.from ≡ true
    by_bytes [] l h = absurd (omega (arith, l))
    by_bytes (x ∷ xs) l h = and_left _ _ h

-- what holds of all positions holds of the first of each stretch
begins_at : (p : ℕ → Bool) (ss : List Stretch) (j : ℕ) (d : Stretch) → list_all is_stretch ss ≡ true → list_all
    (λ byte. p byte.at) (all_bytes ss) ≡ true → j < length ss → p (get_or ss j d).from ≡ true
begins_at p [] j d k h l = absurd (omega (arith, l))
begins_at p (s ∷ ss) zero d k h l = first_lt p s (all_bytes ss) (and_left _ _ k) h
begins_at p (s ∷ ss) (suc j) d k h l = begins_at p ss j d (and_right _ _ k)
    (all_behind (λ byte. p byte.at) (bytes_of s) (all_bytes ss) h) (omega (arith, l))

-- all bytes behind a stretch stand above its first
above_first : (s : Stretch) (more : List Unsaved) → is_stretch s ≡ true → positions_rise (bytes_of s ++ more) ≡ true
    → list_all (λ byte. nat_lt s.from byte.at) more ≡ true
above_first s more k h = by_bytes s.bytes (some_of s k) h
  where
    by_bytes : (bytes : List ℕ) → 0 < length bytes → positions_rise (written s.writer s.from bytes ++ more) ≡ true
        → list_all (λ byte. nat_lt s.from byte.at) more ≡ true
    by_bytes [] l h = absurd (omega (arith, l))
    by_bytes (x ∷ xs) l h = all_behind (λ byte. nat_lt s.from byte.at) (written s.writer (s.from + 1) xs) more
        (and_left _ _ h)

-- a later stretch doesn't begin below an earlier one
begin_in_turn : (ss : List Stretch) (i j : ℕ) (d : Stretch) → list_all is_stretch ss ≡ true → positions_rise
    (all_bytes ss) ≡ true → i ≤ j → j < length ss → (get_or ss i d).from ≤ (get_or ss j d).from
begin_in_turn [] i j d k h o l = absurd (omega (arith, l))
begin_in_turn (s ∷ ss) zero zero d k h o l = omega arith
begin_in_turn (s ∷ ss) zero (suc j) d k h o l =
    let above : nat_lt s.from (get_or ss j d).from ≡ true
    = begins_at (nat_lt s.from) ss j d (and_right _ _ k) (above_first s (all_bytes ss) (and_left _ _ k) h)
    (omega (arith, l)) in
    grind (arith, common_steps, above)
begin_in_turn (s ∷ ss) (suc i) zero d k h o l = absurd (omega (arith, o))
begin_in_turn (s ∷ ss) (suc i) (suc j) d k h o l = begin_in_turn ss i j d (and_right _ _ k)
    (rise_behind (bytes_of s) (all_bytes ss) h) (omega (arith, o)) (omega (arith, l))

-- those that begin below a position stand before the others
pub begun_first : (at : ℕ) (ss : List Stretch) → are_stretches ss ≡ true → IsPartitionedBy
    (λ stretch. nat_lt stretch.from at) ss
begun_first at ss h = IsPartitionedBy-ltb (λ stretch. stretch.from) ss at
    (λ i j d o l. begin_in_turn ss i j d (and_left _ _ h) (and_right _ _ h) o l)

-- all bytes behind a stretch stand from its end on
behind_end : (s : Stretch) (more : List Unsaved) → is_stretch s ≡ true → positions_rise (bytes_of s ++ more) ≡ true
    → list_all (λ byte. nat_le (s.from + length s.bytes) byte.at) more ≡ true
behind_end s more k h = by_bytes s.from s.bytes (some_of s k) h
  where
    by_bytes : (from : ℕ) (bytes : List ℕ) → 0 < length bytes → positions_rise (written s.writer from bytes ++ more)
        ≡ true → list_all (λ byte. nat_le (from + length bytes) byte.at) more ≡ true
    by_bytes from [] l h = absurd (omega (arith, l))
    by_bytes from (x ∷ []) l h =
        let z : from + suc zero ≡ suc from = omega arith in
        subst (λ n. list_all (λ byte. nat_le n byte.at) more ≡ true) (sym z) (and_left _ _ h)
    by_bytes from (x ∷ y ∷ ys) l h =
        let z : from + 1 + suc (length ys) ≡ from + suc (suc (length ys)) = omega arith in
        subst (λ n. list_all (λ byte. nat_le n byte.at) more ≡ true) z
        (by_bytes (from + 1) (y ∷ ys) (omega arith) (and_right _ _ h))

-- a later stretch doesn't end before an earlier one
end_in_turn : (ss : List Stretch) (i j : ℕ) (d : Stretch) → list_all is_stretch ss ≡ true → positions_rise
    (all_bytes ss) ≡ true → i ≤ j → j < length ss
    → (get_or ss i d).from + length (get_or ss i d).bytes ≤ (get_or ss j d).from + length (get_or ss j d).bytes
end_in_turn [] i j d k h o l = absurd (omega (arith, l))
end_in_turn (s ∷ ss) zero zero d k h o l = omega arith
end_in_turn (s ∷ ss) zero (suc j) d k h o l =
    let above : nat_le (s.from + length s.bytes) (get_or ss j d).from ≡ true
    = begins_at (nat_le (s.from + length s.bytes)) ss j d (and_right _ _ k)
    (behind_end s (all_bytes ss) (and_left _ _ k) h) (omega (arith, l)) in
    let behind : s.from + length s.bytes ≤ (get_or ss j d).from = grind (arith, common_steps, above) in
    omega (arith, behind)
end_in_turn (s ∷ ss) (suc i) zero d k h o l = absurd (omega (arith, o))
end_in_turn (s ∷ ss) (suc i) (suc j) d k h o l = end_in_turn ss i j d (and_right _ _ k)
    (rise_behind (bytes_of s) (all_bytes ss) h) (omega (arith, o)) (omega (arith, l))

-- those that end at a position or before it stand before the others
pub ended_first : (at : ℕ) (ss : List Stretch) → are_stretches ss ≡ true
    → IsPartitionedBy (λ stretch. nat_le (stretch.from + length stretch.bytes) at) ss
ended_first at ss h = IsPartitionedBy-leb (λ stretch. stretch.from + length stretch.bytes) ss at
    (λ i j d o l. end_in_turn ss i j d (and_left _ _ h) (and_right _ _ h) o l)

-- and all their bytes stand below it
pub below_of : (at : ℕ) (ss : List Stretch) (i : ℕ)
    → AllWithin (λ stretch. nat_le (stretch.from + length stretch.bytes) at ≡ true) ss 0 i
    → list_all (λ byte. nat_lt byte.at at) (all_bytes (take i ss)) ≡ true
below_of at ss zero w = refl
below_of at [] (suc i) w = refl
below_of at (s ∷ ss) (suc i) w =
    let here : nat_le (s.from + length s.bytes) at ≡ true = w zero s (omega arith) (omega arith) in
    let low : s.from + length s.bytes ≤ at = grind (arith, common_steps, here) in
    all_append (λ byte. nat_lt byte.at at) (bytes_of s) (all_bytes (take i ss))
    (written_below s.writer s.from at s.bytes low)
    (below_of at ss i (λ j d l u. w (suc j) d (omega arith) (omega (arith, u))))

-- the others have no byte below it
pub above_of : (end : ℕ) (ss : List Stretch) (i : ℕ) → AllWithin (λ stretch. nat_lt stretch.from end ≡ false) ss i
    (length ss) → list_all (λ byte. nat_le end byte.at) (all_bytes (drop i ss)) ≡ true
above_of end [] i w = ap (λ ss. list_all (λ byte. nat_le end byte.at) (all_bytes ss)) (drop-nil i)
above_of end (s ∷ ss) zero w =
    let here : nat_lt s.from end ≡ false = w zero s (omega arith) (omega arith) in
    let low : end ≤ s.from = grind (arith, common_steps, here) in
    all_append (λ byte. nat_le end byte.at) (bytes_of s) (all_bytes ss)
    (written_from s.writer end s.from s.bytes low) (above_of end ss zero
    (λ j d l u. w (suc j) d (omega arith) (omega (arith, u))))
above_of end (s ∷ ss) (suc i) w = above_of end ss i (λ j d l u. w (suc j) d (omega (arith, l)) (omega (arith, u)))

-- fewer stretches have no other bytes
above_later : (p : Unsaved → Bool) (ss : List Stretch) (i j : ℕ) → i ≤ j → list_all p (all_bytes (drop i ss)) ≡ true
    → list_all p (all_bytes (drop j ss)) ≡ true
above_later p [] i j o h = ap (λ ss. list_all p (all_bytes ss)) (drop-nil j)
above_later p (s ∷ ss) zero zero o h = h
above_later p (s ∷ ss) zero (suc j) o h = above_later p ss zero j (omega arith)
    (all_behind p (bytes_of s) (all_bytes ss) h)
above_later p (s ∷ ss) (suc i) zero o h = absurd (omega (arith, o))
above_later p (s ∷ ss) (suc i) (suc j) o h = above_later p ss i j (omega (arith, o)) h

-- a part of the stretches
pub cut_found : (ss : List Stretch) (from to low high last : ℕ) → low ≤ length ss → high ≤ length ss → last ≡ max
    high low
    → list_all (λ byte. nat_lt byte.at from) (all_bytes (take low ss)) ≡ true → list_all (λ byte. nat_le to byte.at)
    (all_bytes (drop high ss)) ≡ true → IsCut ss from to low last
cut_found ss from to low high last a b e below above =
    record {
      ordered = omega (arith, e);
      inside = omega (arith, a, b, e);
      below = below;
      above = above_later (λ byte. nat_le to byte.at) ss high last (omega (arith, e)) above;
    }

-- a part for a span is one for a span that begins later
less_later : (x low from : ℕ) → low ≤ from → nat_lt x low ≡ true → nat_lt x from ≡ true
less_later x low from o h = grind (arith, common_steps, o, h)

pub cut_later : (ss : List Stretch) (low from to first last : ℕ) → low ≤ from → IsCut ss low to first last
    → IsCut ss from to first last
cut_later ss low from to first last o cut = record {
  ordered = cut.ordered;
  inside = cut.inside;
  below = all_implied (λ byte. nat_lt byte.at low) (λ byte. nat_lt byte.at from)
      (λ byte h. less_later byte.at low from o h) (all_bytes (take first ss)) cut.below;
  above = cut.above;
}

-- the front of a list and the rest of it
halves : {X : Type 0} (xs : List X) (i : ℕ) → xs ≡ take i xs ++ drop i xs
halves [] zero = refl
halves [] (suc i) = refl
halves (x ∷ xs) zero = refl
halves (x ∷ xs) (suc i) = ap (λ ys. x ∷ ys) (halves xs i)

-- a list is what stands before a part, the part, and what stands behind it
around : {X : Type 0} (xs : List X) (i k : ℕ) → i ≤ k → xs ≡ take i xs ++ (take (k - i) (drop i xs) ++ drop k xs)
around xs i k h =
    let e : i + (k - i) ≡ k = omega (arith, h) in
    halves xs i
    ∙ ap (λ ys. take i xs ++ ys) (halves (drop i xs) (k - i) ∙ ap (λ ys. take (k - i) (drop i xs) ++ ys)
    (sym (drop_more xs i (k - i)) ∙ ap (λ n. drop n xs) e))

-- the bytes of three lists
three_bytes : (xs ys zs : List Stretch) → all_bytes (xs ++ (ys ++ zs)) ≡ all_bytes xs ++ (all_bytes ys ++ all_bytes zs)
three_bytes xs ys zs = flat_map-append bytes_of xs (ys ++ zs) ∙ ap (λ bytes. all_bytes xs ++ bytes)
    (flat_map-append bytes_of ys zs)

pub around_bytes : (ss : List Stretch) (i k : ℕ) → i ≤ k → all_bytes ss ≡ all_bytes (take i ss) ++
    (all_bytes (take (k - i) (drop i ss)) ++ all_bytes (drop k ss))
around_bytes ss i k h = ap all_bytes (around ss i k h) ∙ three_bytes (take i ss) (take (k - i) (drop i ss)) (drop k ss)

-- what is put in the place of a part
pub put_bytes : (ss list next : List Stretch) (i k : ℕ) → next ≡ splice ss i k list → all_bytes next ≡ all_bytes
    (take i ss) ++ (all_bytes list ++ all_bytes (drop k ss))
put_bytes ss list next i k e = ap all_bytes e ∙ three_bytes (take i ss) list (drop k ss)

-- each of a part, and of what is put in its place
pub each_taken : {X : Type 0} (p : X → Bool) (xs : List X) (i : ℕ) → list_all p xs ≡ true → list_all p (take i xs)
    ≡ true
each_taken p xs i h = all_front p (take i xs) (drop i xs) (subst (λ ys. list_all p ys ≡ true) (halves xs i) h)

pub each_dropped : {X : Type 0} (p : X → Bool) (xs : List X) (i : ℕ) → list_all p xs ≡ true → list_all p (drop i xs)
    ≡ true
each_dropped p xs i h = all_behind p (take i xs) (drop i xs) (subst (λ ys. list_all p ys ≡ true) (halves xs i) h)

pub each_put : (ss list next : List Stretch) (i k : ℕ) → next ≡ splice ss i k list → list_all is_stretch ss ≡ true
    → list_all is_stretch list ≡ true → list_all is_stretch next ≡ true
each_put ss list next i k e h l =
    subst (λ xs. list_all is_stretch xs ≡ true) (sym e)
    (all_append is_stretch (take i ss) (list ++ drop k ss) (each_taken is_stretch ss i h)
    (all_append is_stretch list (drop k ss) l (each_dropped is_stretch ss k h)))

-- all pass a test, or none
pub filter_all : (p : Unsaved → Bool) (xs : List Unsaved) → list_all p xs ≡ true → filter p xs ≡ xs
filter_all p [] h = refl
filter_all p (x ∷ xs) h = let e : p x ≡ true = and_left _ _ h in rw e
    (ap (λ ys. x ∷ ys) (filter_all p xs (and_right _ _ h)))

pub filter_none : (p : Unsaved → Bool) (xs : List Unsaved) → list_all (λ x. not (p x)) xs ≡ true → filter p xs ≡ []
filter_none p [] h = refl
filter_none p (x ∷ xs) h = let e : p x ≡ false = not_true (p x) (and_left _ _ h) in rw e
    (filter_none p xs (and_right _ _ h))
  where
    not_true : (b : Bool) → not b ≡ true → b ≡ false
    not_true true h = sym h
    not_true false h = refl

-- none stands at a position above all, or below all
none_above : (xs : List Unsaved) (from at : ℕ) → list_all (λ byte. nat_lt byte.at from) xs ≡ true → from ≤ at
    → unsaved_at xs at ≡ None
none_above [] from at h o = refl
none_above (x ∷ xs) from at h o =
    let l : nat_lt x.at from ≡ true = and_left _ _ h in
    let e : (x.at == at) ≡ false = grind (arith, common_steps, l, o) in
    rw e (none_above xs from at (and_right _ _ h) o)

none_below : (xs : List Unsaved) (to at : ℕ) → list_all (λ byte. nat_le to byte.at) xs ≡ true → at < to → unsaved_at
    xs at ≡ None
none_below [] to at h o = refl
none_below (x ∷ xs) to at h o =
    let l : nat_le to x.at ≡ true = and_left _ _ h in
    let e : (x.at == at) ≡ false = grind (arith, common_steps, l, o) in
    rw e (none_below xs to at (and_right _ _ h) o)

or_nothing : (o : Option Unsaved) → option_or o None ≡ o
or_nothing None = refl
or_nothing (Some byte) = refl

-- the same byte at each position is read alike
over_alike : (kept : List ℕ) (xs ys : List Unsaved) (at n : ℕ)
    → ((p : ℕ) → at ≤ p → p < at + n → unsaved_at xs p ≡ unsaved_at ys p) → bytes_over kept xs at n ≡ bytes_over kept
    ys at n
over_alike kept xs ys at zero f = refl
over_alike kept xs ys at (suc n) f =
    ap (λ o. option_map_or (λ byte. byte.value) o (byte_at kept at) ∷ bytes_over kept xs (suc at) n)
    (f at (omega arith) (omega arith))
    ∙ ap (λ bytes. byte_over kept ys at ∷ bytes) (over_alike kept xs ys (suc at) n
    (λ p l u. f p (omega (arith, l)) (omega (arith, u))))

-- the bytes of a span are read by what is unsaved in the part
pub part_shows : (kept : List ℕ) (ss : List Stretch) (from to i k : ℕ) → IsCut ss from to i k
    → bytes_over kept (all_bytes (take (k - i) (drop i ss))) from (to - from) ≡ bytes_over kept (all_bytes ss) from
    (to - from)
part_shows kept ss from to i k cut =
    let a = all_bytes (take i ss) in let m = all_bytes (take (k - i) (drop i ss)) in let b = all_bytes (drop k ss) in
    over_alike kept m (all_bytes ss) from (to - from) (λ p l u.
    sym (ap (λ bytes. unsaved_at bytes p) (around_bytes ss i k cut.ordered)
    ∙ find-append (λ byte. byte.at == p) a (m ++ b)
    ∙ ap (λ o. option_or o (unsaved_at (m ++ b) p)) (none_above a from p cut.below l)
    ∙ find-append (λ byte. byte.at == p) m b
    ∙ ap (λ o. option_or (unsaved_at m p) o) (none_below b to p cut.above (omega (arith, l, u)))
    ∙ or_nothing (unsaved_at m p)))

-- below a lesser position, and from a later one on
lt_later : (a b x : ℕ) → a ≤ b → nat_lt x a ≡ true → not (nat_le b x) ≡ true
lt_later a b x o h = let e : nat_le b x ≡ false = grind (arith, common_steps, o, h) in rw e refl

le_later : (a b x : ℕ) → a ≤ b → nat_le b x ≡ true → not (nat_lt x a) ≡ true
le_later a b x o h = let e : nat_lt x a ≡ false = grind (arith, common_steps, o, h) in rw e refl

-- a part of the stretches gives way to what is written
pub cut_written : (ss list next : List Stretch) (host : HostId) (from : ℕ) (bytes : List ℕ) (i k : ℕ) → IsCut ss from
    (from + length bytes) i k
    → all_bytes list ≡ unsaved_after (all_bytes (take (k - i) (drop i ss))) host from bytes → next ≡ splice ss i k list
    → all_bytes next ≡ unsaved_after (all_bytes ss) host from bytes
cut_written ss list next host from bytes i k cut w e =
    let to = from + length bytes in
    let a = all_bytes (take i ss) in let m = all_bytes (take (k - i) (drop i ss)) in let b = all_bytes (drop k ss) in
    let low : Unsaved → Bool = λ byte. nat_lt byte.at from in
    let high : Unsaved → Bool = λ byte. nat_le to byte.at in
    let below : filter low (a ++ (m ++ b)) ≡ a ++ filter low m
    = filter-append low a (m ++ b) ∙ ap (λ ys. ys ++ filter low (m ++ b)) (filter_all low a cut.below)
    ∙ ap (λ ys. a ++ ys) (filter-append low m b
    ∙ ap (λ ys. filter low m ++ ys) (filter_none low b (all_implied high (λ byte. not (low byte))
    (λ byte h. le_later from to byte.at (omega arith) h) b cut.above))
    ∙ append-nil (filter low m)) in
    let above : filter high (a ++ (m ++ b)) ≡ filter high m ++ b
    = filter-append high a (m ++ b)
    ∙ ap (λ ys. ys ++ filter high (m ++ b)) (filter_none high a
    (all_implied low (λ byte. not (high byte)) (λ byte h. lt_later from to byte.at (omega arith) h) a cut.below))
    ∙ filter-append high m b ∙ ap (λ ys. filter high m ++ ys) (filter_all high b cut.above) in
    let whole : unsaved_after (all_bytes ss) host from bytes ≡ (a ++ filter low m) ++ written host from bytes ++
    (filter high m ++ b)
    = ap (λ xs. unsaved_after xs host from bytes) (around_bytes ss i k cut.ordered)
    ∙ ap (λ ys. ys ++ written host from bytes ++ filter high (a ++ (m ++ b))) below
    ∙ ap (λ ys. (a ++ filter low m) ++ written host from bytes ++ ys) above in
    put_bytes ss list next i k e ∙ ap (λ ys. a ++ (ys ++ b)) w
    ∙ regroup a (filter low m) (written host from bytes) (filter high m) b ∙ sym whole
  where
    regroup : (a x w y b : List Unsaved) → a ++ ((x ++ w ++ y) ++ b) ≡ (a ++ x) ++ w ++ (y ++ b)
    regroup a x w y b = simp append_assoc

-- a piece is put where nothing is written over
pub piece_put : (ss next : List Stretch) (host : HostId) (from : ℕ) (bytes : List ℕ) (i k : ℕ) → IsCut ss from
    (from + length bytes) i k → i ≡ k → next ≡ insert ss i (piece_of host from bytes)
    → all_bytes next ≡ unsaved_after (all_bytes ss) host from bytes
piece_put ss next host from bytes i k cut same put =
    let none : k - i ≡ 0 = omega (arith, same) in
    cut_written ss (piece_of host from bytes ∷ []) next host from bytes i k cut
    (sym (ap (λ n. unsaved_after (all_bytes (take n (drop i ss))) host from bytes) none))
    (put ∙ ap (λ n. take i ss ++ piece_of host from bytes ∷ drop n ss) same)

pub piece_each : (ss next : List Stretch) (host : HostId) (from : ℕ) (bytes : List ℕ) (i : ℕ) →
    next ≡ insert ss i (piece_of host from bytes) → list_all is_stretch ss ≡ true → 0 < length bytes →
    from + length bytes ≤ FILE_BYTES_MAX → list_all is_stretch next ≡ true
piece_each ss next host from bytes i put each some within =
    let one : is_stretch (piece_of host from bytes) ≡ true =
    and_both _ _ (lt-ltb 0 (length bytes) some) (le-leb (from + length bytes) FILE_BYTES_MAX within) in
    each_put ss (piece_of host from bytes ∷ []) next i i put each (and_both _ _ one refl)

-- and the stretches stay as they must be
pub write_stands : (ss next : List Stretch) (host : HostId) (from : ℕ) (bytes : List ℕ) → are_stretches ss ≡ true
    → all_bytes next ≡ unsaved_after (all_bytes ss) host from bytes
    → list_all is_stretch next ≡ true → are_stretches next ≡ true
write_stands ss next host from bytes h e k =
    and_both _ _ k (subst (λ xs. positions_rise xs ≡ true) (sym e)
    (rise_written (all_bytes ss) host from bytes (and_right _ _ h)))
