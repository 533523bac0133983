-- Bytes with zeros behind them.
use Rattle.std.proofs.Common.{◌≡◌, ◌<◌, ◌≤◌, ℕ, zero, suc, ◌+◌, ◌-◌, min, Bool, true, false, List, [], ◌∷◌}
use Rattle.std.proofs.Common.{◌++◌, length, take, drop, replicate, nat_le, nat_lt, append_assoc, append-nil}
use Rattle.std.proofs.Common.{not-suc-le-zero, le_of_suc-le-suc}
use Rattle.std.proofs.Common.{refl, sym, ◌∙◌, ap, arith, inl, inr, if◌then◌else◌}
use Rattle.std.proofs.lemmas.List.{length-take-le, length-drop, length-append, length-replicate, ext_get_or}
use Rattle.std.proofs.lemmas.List.{get_or_append_left, get_or-append_right, get_or-take, get_or-drop}
use Rattle.std.proofs.lemmas.List.{replicate-append-replicate}
use Rattle.std.proofs.lemmas.Bool.{cases_lt, and_parts, and_from, leb-true, ltb-true, le-leb, lt-ltb}
use borrow.Rule.Slice.PartMut.{put_mid}
use Rattle.base_types.specs.Image.{byte_at}
use Rattle.base_types.specs.Spans.{has_byte}
use Rattle.base_types.specs.declared.span.Span.{Span}
use Rattle.host_cache.specs.Bytes.{padded, is_within, IsPut, IsCleared}
use Rattle.host_cache.proofs.Writing.{zeros, within, bool_same, is_put}

past : (bytes : List ℕ) (k : ℕ) → length bytes ≤ k → byte_at bytes k ≡ 0
past [] k le = refl
past (x ∷ xs) zero le = absurd (not-suc-le-zero le)
past (x ∷ xs) (suc k) le = past xs k (le_of_suc-le-suc le)

pub padded_many : (room : ℕ) (bytes : List ℕ) → length bytes ≤ room → length (padded room bytes) ≡ room
padded_many room bytes le =
    let n = room - length bytes in
    omega (arith, le, length-append bytes (replicate n 0), length-replicate {A = ℕ} n 0)

pub padded_at : (room : ℕ) (bytes : List ℕ) (k : ℕ) → byte_at (padded room bytes) k ≡ byte_at bytes k
padded_at room bytes k =
    let n = room - length bytes in
    elim (cases_lt k (length bytes)) [
      | inl lt ↦ get_or_append_left bytes (replicate n 0) 0 k lt
      | inr le ↦ get_or-append_right bytes (replicate n 0) (length bytes) k 0 refl le ∙ zeros n (k - length bytes)
          ∙ sym (past bytes k le)
    ]

-- some of the zeros are there
filled : (room to : ℕ) (bytes : List ℕ) → length bytes ≤ to → to ≤ room →
    padded room (bytes ++ replicate (to - length bytes) 0) ≡ padded room bytes
filled room to bytes le within =
    let m = to - length bytes in
    let size : length (bytes ++ replicate m 0) ≡ to =
    omega (arith, le, length-append bytes (replicate m 0), length-replicate {A = ℕ} m 0) in
    let many : m + (room - to) ≡ room - length bytes = omega (arith, le, within) in
    ap (λ (n : ℕ). (bytes ++ replicate m 0) ++ replicate (room - n) 0) size
    ∙ append_assoc bytes (replicate m 0) (replicate (room - to) 0)
    ∙ ap (λ (l : List ℕ). bytes ++ l) {y = replicate (m + (room - to)) 0} (replicate-append-replicate m (room - to) 0)
    ∙ ap (λ (n : ℕ). bytes ++ replicate n 0) many

pub padded_filled : (room to : ℕ) (bytes : List ℕ) → to ≤ room →
    padded room (bytes ++ replicate (to - length bytes) 0) ≡ padded room bytes
padded_filled room to bytes within = elim (cases_lt to (length bytes)) [
  | inl lt ↦
      let none : to - length bytes ≡ 0 = omega (arith, lt) in
      ap (λ (n : ℕ). padded room (bytes ++ replicate n 0)) none ∙ ap (padded room) (append-nil bytes)
  | inr le ↦ filled room to bytes le within
]

-- a piece is written among those that are there
pub padded_put : (room at : ℕ) (piece old new : List ℕ) → length old ≤ room → IsPut at piece old new →
    IsPut at piece (padded room old) (padded room new)
padded_put room at piece old new le put =
    record {
      len = padded_many room new (omega (arith, le, put.len)) ∙ sym (padded_many room old le);
      each = λ k. padded_at room new k ∙ put.each k
          ∙ ap (λ (n : ℕ). if is_within at (length piece) k then byte_at piece (k - at) else n) (sym (padded_at room old
          k));
    }

either_zero : (b c : Bool) (x : ℕ) → x ≡ 0 → (if b then 0 else x) ≡ (if c then 0 else x)
either_zero true true x e = refl
either_zero true false x e = sym e
either_zero false true x e = e
either_zero false false x e = refl

-- zeros are written over those that are there and lie in a span
module _ (room : ℕ) (span : Span) (old : List ℕ) (le : length old ≤ room) (from to : ℕ)
    (last : to ≡ min (length old) span.to) (first : from ≡ min to span.from) where
  tested : (k : ℕ) → k < length old → is_within from (to - from) k ≡ has_byte span k
  tested k lt =
      bool_same (is_within from (to - from) k) (has_byte span k)
      (λ h.
      let both = and_parts (nat_le from k) (nat_lt k (from + (to - from))) h in
      let low : from ≤ k = leb-true from k both.0 in
      let high : k < from + (to - from) = ltb-true k (from + (to - from)) both.1 in
      and_from (nat_le span.from k) (nat_lt k span.to) (le-leb span.from k (omega (arith, low, high, last, first)))
      (lt-ltb k span.to (omega (arith, low, high, last, first))))
      (λ h.
      let both = and_parts (nat_le span.from k) (nat_lt k span.to) h in
      let low : span.from ≤ k = leb-true span.from k both.0 in
      let high : k < span.to = ltb-true k span.to both.1 in
      within from (to - from) k (omega (arith, low, high, last, first)) (omega (arith, low, high, lt, last, first)))

  cleared : (k : ℕ) → (if is_within from (to - from) k then 0 else byte_at old k)
      ≡ (if has_byte span k then 0 else byte_at old k)
  cleared k = elim (cases_lt k (length old)) [
    | inl lt ↦ ap (λ (b : Bool). if b then 0 else byte_at old k) (tested k lt)
    | inr beyond ↦ either_zero (is_within from (to - from) k) (has_byte span k) (byte_at old k) (past old k beyond)
  ]

  pub padded_cleared : (m : ℕ) (new : List ℕ) → m ≡ to - from → new ≡ replicate (to - from) 0 →
      IsCleared span (padded room old) (padded room (put_mid from m old new))
  padded_cleared m new many same =
      let n = to - from in
      let size = length-replicate {A = ℕ} n 0 in
      let put = is_put from (replicate n 0) old (omega (arith, size, last, first)) m new (many ∙ sym size) same in
      let result = put_mid from m old new in
      record {
        len = padded_many room result (omega (arith, le, put.len)) ∙ sym (padded_many room old le);
        each = λ k. padded_at room result k ∙ put.each k
            ∙ ap (λ (c : ℕ). if is_within from c k then byte_at (replicate n 0) (k - from) else byte_at old k) size
            ∙ ap (λ (x : ℕ). if is_within from n k then x else byte_at old k) (zeros n (k - from))
            ∙ cleared k
            ∙ ap (λ (x : ℕ). if has_byte span k then 0 else x) (sym (padded_at room old k));
      }

-- bytes that are read: those that are there, and zeros behind them
module _ (room at n : ℕ) (bytes : List ℕ) (le : length bytes ≤ room) (fits : at + n ≤ room) (from to : ℕ)
    (first : from ≡ min at (length bytes)) (last : to ≡ min (at + n) (length bytes)) where
  abbrev front : List ℕ
  front = take (to - from) (drop from bytes)

  many : length front ≡ to - from
  many = length-take-le (to - from) (drop from bytes) (omega (arith, first, last, length-drop from bytes))

  whole : length (take n (drop at (padded room bytes))) ≡ n
  whole =
      length-take-le n (drop at (padded room bytes))
      (omega (arith, fits, length-drop at (padded room bytes), padded_many room bytes le))

  there : (i : ℕ) → i < n → byte_at (take n (drop at (padded room bytes))) i ≡ byte_at bytes (at + i)
  there i lt =
      get_or-take n (drop at (padded room bytes)) i 0 lt ∙ get_or-drop at (padded room bytes) i 0
      ∙ padded_at room bytes (at + i)

  pub padded_read : (rest : ℕ) → rest ≡ n - (to - from) →
      front ++ replicate rest 0 ≡ take n (drop at (padded room bytes))
  padded_read rest left =
      let size : length (front ++ replicate rest 0) ≡ n =
      omega (arith, first, last, left, many, length-append front (replicate rest 0), length-replicate {A = ℕ} rest 0) in
      ext_get_or 0 (front ++ replicate rest 0) (take n (drop at (padded room bytes))) (size ∙ sym whole) (λ i lt.
      elim (cases_lt i (to - from)) [
        | inl low ↦
            let here : from + i ≡ at + i = omega (arith, low, first, last) in
            get_or_append_left front (replicate rest 0) 0 i (omega (arith, low, many))
            ∙ get_or-take (to - from) (drop from bytes) i 0 low ∙ get_or-drop from bytes i 0
            ∙ ap (byte_at bytes) here ∙ sym (there i (omega (arith, lt, size)))
        | inr high ↦
            get_or-append_right front (replicate rest 0) (to - from) i 0 many high ∙ zeros rest (i - (to - from))
            ∙ sym (past bytes (at + i) (omega (arith, lt, size, high, first, last)))
            ∙ sym (there i (omega (arith, lt, size)))
      ])
