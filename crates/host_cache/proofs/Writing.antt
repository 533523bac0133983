-- Bytes that are written in place.
use Rattle.std.proofs.Common.{◌≡◌, ◌<◌, ◌≤◌, ℕ, zero, suc, ◌+◌, ◌-◌, min, max, Bool, true, false, ◌&&◌, List, ◌∷◌}
use Rattle.std.proofs.Common.{◌++◌, length, take, drop, replicate, get_or, nat_le, nat_lt}
use Rattle.std.proofs.Common.{refl, sym, ◌∙◌, ap, subst, arith, inl, inr, if◌then◌else◌}
use Rattle.std.proofs.lemmas.List.{length-take-le, length-drop, length-append}
use Rattle.std.proofs.lemmas.List.{get_or_append_left, get_or-append_right, get_or-take, get_or-drop}
use Rattle.std.proofs.lemmas.Bool.{cases_lt, cond-true, cond-false, and_parts, and_from}
use Rattle.std.proofs.lemmas.Bool.{leb-true, ltb-true, le-leb, lt-ltb, false_from_ne_true}
use Rattle.std.proofs.lemmas.Bool.Decides.{nat_tests}
use borrow.Rule.Slice.PartMut.{put_mid}
use Rattle.base_types.specs.Image.{byte_at}
use Rattle.base_types.specs.Spans.{has_byte}
use Rattle.base_types.specs.declared.span.Span.{Span}
use Rattle.tree_calls.specs.declared.part.Piece.{Piece}
use Rattle.host_cache.proofs.Lists.{drop_here}
use Rattle.host_cache.specs.Bytes.{is_within, told_byte, IsPut, IsLaidOver, IsLaid}

pub within : (from count at : ℕ) → from ≤ at → at < from + count → is_within from count at ≡ true
within from count at low high = grind (arith, nat_tests)

pub not_within_low : (from count at : ℕ) → at < from → is_within from count at ≡ false
not_within_low from count at low = grind (arith, nat_tests)

pub not_within_high : (from count at : ℕ) → from + count ≤ at → is_within from count at ≡ false
not_within_high from count at high = grind (arith, nat_tests)

module _ (at : ℕ) (piece old : List ℕ) (fits : at + length piece ≤ length old) where
  abbrev written : List ℕ
  written = take at old ++ (piece ++ drop (length piece) (drop at old))

  front : length (take at old) ≡ at
  front = length-take-le at old (omega arith)

  before : (k : ℕ) → k < at → byte_at written k ≡ byte_at old k
  before k lt =
      get_or_append_left (take at old) (piece ++ drop (length piece) (drop at old)) 0 k (omega (arith, front))
      ∙ get_or-take at old k 0 lt

  after : (k : ℕ) → at + length piece ≤ k → byte_at written k ≡ byte_at old k
  after k le =
      let n = length piece in
      let e : at + (n + (k - at - n)) ≡ k = omega arith in
      get_or-append_right (take at old) (piece ++ drop n (drop at old)) at k 0 front (omega arith)
      ∙ get_or-append_right piece (drop n (drop at old)) n (k - at) 0 refl (omega arith)
      ∙ get_or-drop n (drop at old) (k - at - n) 0 ∙ get_or-drop at old (n + (k - at - n)) 0 ∙ ap (byte_at old) e

  inside : (k : ℕ) → at ≤ k → k < at + length piece → byte_at written k ≡ byte_at piece (k - at)
  inside k low high =
      get_or-append_right (take at old) (piece ++ drop (length piece) (drop at old)) at k 0 front low
      ∙ get_or_append_left piece (drop (length piece) (drop at old)) 0 (k - at) (omega arith)

  size : length written ≡ length old
  size =
      omega (
        arith,
        front,
        length-append (take at old) (piece ++ drop (length piece) (drop at old)),
        length-append piece (drop (length piece) (drop at old)),
        length-drop (length piece) (drop at old),
        length-drop at old,
      )

  each : (k : ℕ) → byte_at written k ≡ (if is_within at (length piece) k then byte_at piece (k - at) else byte_at old k)
  each k =
      let n = length piece in
      elim (cases_lt k at) [
        | inl lt ↦ before k lt
            ∙ sym (cond-false (is_within at n k) (byte_at piece (k - at)) (byte_at old k) (not_within_low at n k lt))
        | inr low ↦ elim (cases_lt k (at + n)) [
          | inl high ↦ inside k low high
              ∙ sym (cond-true (is_within at n k) (byte_at piece (k - at)) (byte_at old k) (within at n k low high))
          | inr past ↦ after k past
              ∙ sym (cond-false (is_within at n k) (byte_at piece (k - at)) (byte_at old k) (not_within_high at n k
              past))
        ]
      ]

  -- the list that a copy into a range makes
  pub is_put : (m : ℕ) (new : List ℕ) → m ≡ length piece → new ≡ piece → IsPut at piece old (put_mid at m old new)
  is_put m new many same =
      let e : put_mid at m old new ≡ written = λ j. put_mid at (many j) old (same j) in
      record { len = ap (λ (l : List ℕ). length l) e ∙ size; each = λ k. ap (λ (l : List ℕ). byte_at l k) e ∙ each k }

pub zeros : (n k : ℕ) → byte_at (replicate n 0) k ≡ 0
zeros zero k = refl
zeros (suc n) zero = refl
zeros (suc n) (suc k) = zeros n k

pub bool_same : (b c : Bool) → (b ≡ true → c ≡ true) → (c ≡ true → b ≡ true) → b ≡ c
bool_same true c f g = sym (f refl)
bool_same false true f g = g refl
bool_same false false f g = refl

-- the part of a piece that lies in a span
module _ (span : Span) (piece : Piece) (old : List ℕ) where
  abbrev low : ℕ
  low = max piece.from span.from

  abbrev high : ℕ
  high = min (piece.from + length piece.bytes) span.to

  abbrev inner : List ℕ
  inner = take (high - low) (drop (low - piece.from) piece.bytes)

  parts : (at : ℕ) → (has_byte span at && is_within piece.from (length piece.bytes) at) ≡ true →
      (low ≤ at) × (at < high)
  parts at h =
      let both = and_parts (has_byte span at) (is_within piece.from (length piece.bytes) at) h in
      let s = and_parts (nat_le span.from at) (nat_lt at span.to) both.0 in
      let p = and_parts (nat_le piece.from at) (nat_lt at (piece.from + length piece.bytes)) both.1 in
      let a : span.from ≤ at = leb-true span.from at s.0 in
      let b : at < span.to = ltb-true at span.to s.1 in
      let c : piece.from ≤ at = leb-true piece.from at p.0 in
      let d : at < piece.from + length piece.bytes = ltb-true at (piece.from + length piece.bytes) p.1 in
      (omega (arith, a, b, c, d), omega (arith, a, b, c, d))

  tested : (at : ℕ) → low ≤ high →
      is_within low (high - low) at ≡ (has_byte span at && is_within piece.from (length piece.bytes) at)
  tested at le =
      bool_same (is_within low (high - low) at) (has_byte span at && is_within piece.from (length piece.bytes) at)
      (λ h.
      let both = and_parts (nat_le low at) (nat_lt at (low + (high - low))) h in
      let from : low ≤ at = leb-true low at both.0 in
      let to : at < low + (high - low) = ltb-true at (low + (high - low)) both.1 in
      and_from (has_byte span at) (is_within piece.from (length piece.bytes) at)
      (and_from (nat_le span.from at) (nat_lt at span.to) (le-leb span.from at (omega (arith, from, to, le)))
      (lt-ltb at span.to (omega (arith, from, to, le))))
      (within piece.from (length piece.bytes) at (omega (arith, from, to, le)) (omega (arith, from, to, le))))
      (λ h. let f = parts at h in
      within low (high - low) at (omega (arith, f.0, le)) (omega (arith, f.0, f.1, le)))

  tested_none : (at : ℕ) → high ≤ low → (has_byte span at && is_within piece.from (length piece.bytes) at) ≡ false
  tested_none at le =
      false_from_ne_true (has_byte span at && is_within piece.from (length piece.bytes) at)
      (λ h. let f = parts at h in omega (arith, f.0, f.1, le))

  many : low ≤ high → length inner ≡ high - low
  many le = omega (
    arith,
    length-take-le (high - low) (drop (low - piece.from) piece.bytes)
        (omega (arith, length-drop (low - piece.from) piece.bytes)),
  )

  inner_byte : (at : ℕ) → low ≤ at → at < high → byte_at inner (at - low) ≡ byte_at piece.bytes (at - piece.from)
  inner_byte at from to =
      let e : (low - piece.from) + (at - low) ≡ at - piece.from = omega arith in
      get_or-take (high - low) (drop (low - piece.from) piece.bytes) (at - low) 0 (omega arith)
      ∙ get_or-drop (low - piece.from) piece.bytes (at - low) 0 ∙ ap (byte_at piece.bytes) e

  chosen : (at : ℕ) → low ≤ high →
      (if is_within low (high - low) at then byte_at inner (at - low) else byte_at old at)
      ≡ (if is_within low (high - low) at then byte_at piece.bytes (at - piece.from) else byte_at old at)
  chosen at le = elim (cases_lt at low) [
    | inl lt ↦ let e = not_within_low low (high - low) at lt in
        cond-false (is_within low (high - low) at) (byte_at inner (at - low)) (byte_at old at) e
        ∙ sym (cond-false (is_within low (high - low) at) (byte_at piece.bytes (at - piece.from)) (byte_at old at) e)
    | inr from ↦ elim (cases_lt at high) [
      | inl to ↦ ap (λ (x : ℕ). if is_within low (high - low) at then x else byte_at old at) (inner_byte at from to)
      | inr past ↦ let e = not_within_high low (high - low) at (omega arith) in
          cond-false (is_within low (high - low) at) (byte_at inner (at - low)) (byte_at old at) e
          ∙ sym (cond-false (is_within low (high - low) at) (byte_at piece.bytes (at - piece.from)) (byte_at old at) e)
    ]
  ]

  pub laid_over : (new part : List ℕ) → low < high → part ≡ inner → IsPut low part old new →
      IsLaidOver span piece old new
  laid_over new part lt same put =
      record {
        len = put.len;
        each = λ at. put.each at
            ∙ ap (λ (l : List ℕ). if is_within low (length l) at then byte_at l (at - low) else byte_at old at) same
            ∙ ap (λ (k : ℕ). if is_within low k at then byte_at inner (at - low) else byte_at old at) (many (omega
            arith))
            ∙ chosen at (omega arith)
            ∙ ap (λ b. if b then byte_at piece.bytes (at - piece.from) else byte_at old at) (tested at (omega arith));
      }

  pub laid_nothing : high ≤ low → IsLaidOver span piece old old
  laid_nothing le =
      record {
        len = refl;
        each = λ at.
            sym (cond-false (has_byte span at && is_within piece.from (length piece.bytes) at)
            (byte_at piece.bytes (at - piece.from)) (byte_at old at) (tested_none at le));
      }

two_tests : (a b : Bool) (x y z : ℕ) →
    (if a && b then x else (if a then y else z)) ≡ (if a then (if b then x else y) else z)
two_tests true b x y z = refl
two_tests false b x y z = refl

-- one more piece, before those that were laid
pub laid_more : (span : Span) (piece : Piece) (pieces : List Piece) (old mid new : List ℕ) →
    IsLaid span pieces old mid → IsLaidOver span piece mid new → IsLaid span (piece ∷ pieces) old new
laid_more span piece pieces old mid new laid over =
    record {
      len = over.len ∙ laid.len;
      each = λ at.
          let b = is_within piece.from (length piece.bytes) at in
          let x = byte_at piece.bytes (at - piece.from) in
          over.each at ∙ ap (λ (y : ℕ). if has_byte span at && b then x else y) (laid.each at)
          ∙ two_tests (has_byte span at) b x (told_byte pieces at) (byte_at old at);
    }

pub laid_next : (span : Span) (pieces : List Piece) (old mid new : List ℕ) (i : ℕ) (piece : Piece) → i < length pieces →
    piece ≡ get_or pieces i piece → IsLaid span (drop (suc i) pieces) old mid → IsLaidOver span piece mid new →
    IsLaid span (drop i pieces) old new
laid_next span pieces old mid new i piece lt here laid over =
    subst (λ (ps : List Piece). IsLaid span ps old new) (sym (drop_here pieces i piece lt here))
    (laid_more span piece (drop (suc i) pieces) old mid new laid over)
