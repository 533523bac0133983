-- The gaps of a set in a span, on the way: those found, the place that was reached, and the spans that are left.
use Rattle.std.proofs.Common.{◌≡◌, ◌≤◌, ◌<◌, ◌+◌, ℕ, Bool, true, false, ◌||◌, ◌&&◌, not, nat_le, nat_lt, min, max}
use Rattle.std.proofs.Common.{List, [], ◌∷◌, ◌∙◌, inl, inr, refl, arith}
use Rattle.std.proofs.lemmas.Bool.{cases_lt}
use Rattle.std.proofs.lemmas.Bool.Decides.{nat_tests}
use Rattle.base_types.specs.declared.span.Span.{Span}
use Rattle.base_types.specs.Spans.{has_byte, in_spans}
use Rattle.base_types.specs.declared.limits.TheConstants.{FILE_BYTES_MAX}
use Rattle.token_ranges.specs.Positions.{IsApartBetween, IsApart, StaysApart, AddsBetween}
use Rattle.token_ranges.proofs.Apart.{widen, none_below}

pub record IsMissing (want : ℕ → Bool) (span : Span) (done : List Span) (place : ℕ) (rest : List Span) : Type 0 where
  pub within : place ≤ FILE_BYTES_MAX
  pub front : IsApartBetween 0 done place
  pub low : ℕ
  pub back : IsApartBetween low rest (FILE_BYTES_MAX + 1)
  pub positions : (at : ℕ) → (in_spans done at || ((nat_le place at && nat_lt at span.to) && not (in_spans rest at)))
      ≡ want at

-- up to the end of the next span a gap ends before it
gap_before : (place a b end at : ℕ) → a < b → at < b + 1 → ((nat_le place at && nat_lt at (min a end)) ||
    ((nat_le (max place b) at && nat_lt at end) && true)) ≡ ((nat_le place at && nat_lt at end) && not
    ((nat_le a at && nat_lt at b) || false))
gap_before place a b end at h k = grind (arith, nat_tests)

-- behind it nothing changes
gap_behind : (place a b end at : ℕ) (r : Bool) → a < b → b + 1 ≤ at
    → ((nat_le place at && nat_lt at (min a end)) || ((nat_le (max place b) at && nat_lt at end) && not r))
    ≡ ((nat_le place at && nat_lt at end) && not ((nat_le a at && nat_lt at b) || r))
gap_behind place a b end at r h k = grind (arith, nat_tests)

gap_at : (place a b end at : ℕ) (r : Bool) → a < b → (at < b + 1 → r ≡ false)
    → ((nat_le place at && nat_lt at (min a end)) || ((nat_le (max place b) at && nat_lt at end) && not r))
    ≡ ((nat_le place at && nat_lt at end) && not ((nat_le a at && nat_lt at b) || r))
gap_at place a b end at r h none =
    elim (cases_lt at (b + 1)) [
      | inl lt ↦ rw (none lt) (gap_before place a b end at h lt)
      | inr le ↦ gap_behind place
          a b end at r h le
    ]

or_next : (o g k m : Bool) → (g || k) ≡ m → ((o || g) || k) ≡ (o || m)
or_next true g k m e = refl
or_next false g k m e = e

pub finds_gap : (want : ℕ → Bool) (span : Span) (done more : List Span) (place : ℕ) (next : Span) (rest : List Span)
    → StaysApart done place (min next.from span.to) more → AddsBetween done place (min next.from span.to) more
    → IsMissing want span done place (next ∷ rest) → IsMissing want span more (max place next.to) rest
finds_gap want span done more place next rest stays adds h =
    record {
      within = omega (arith, h.within, next.within);
      front = stays 0 (max place next.to) (omega (arith, h.back.1)) h.front
          (widen 0 0 place (max place next.to) done (omega arith) (omega arith) h.front);
      low = next.to + 1;
      back = h.back.2;
      positions = λ at.
          rw (adds at)
          (or_next (in_spans done at) (nat_le place at && nat_lt at (min next.from span.to))
          ((nat_le (max place next.to) at && nat_lt at span.to) && not (in_spans rest at))
          ((nat_le place at && nat_lt at span.to) && not (has_byte next at || in_spans rest at))
          (gap_at place next.from next.to span.to at (in_spans rest at) h.back.1
          (λ lt. none_below (next.to + 1) (FILE_BYTES_MAX + 1) at rest h.back.2 lt)) ∙ h.positions at);
    }

or_last : (o g w : Bool) → (o || (g && true)) ≡ w → (o || g) ≡ w
or_last true g w e = e
or_last false true w e = e
or_last false false w e = e

-- the last gap reaches to the end of the span
pub last_gap : (want : ℕ → Bool) (span : Span) (done more : List Span) (place : ℕ) → AddsBetween done place span.to
    more → IsMissing want span done place [] → (at : ℕ) → in_spans more at ≡ want at
last_gap want span done more place adds h at =
    rw (adds at) (or_last (in_spans done at) (nat_le place at && nat_lt at span.to) (want at) (h.positions at))

pub last_apart : (want : ℕ → Bool) (span : Span) (done more : List Span) (place : ℕ) (rest : List Span) → StaysApart
    done place span.to more → IsMissing want span done place rest → IsApart more
last_apart want span done more place rest stays h =
    stays 0 (FILE_BYTES_MAX + 1) (omega (arith, span.within)) h.front
    (widen 0 0 place (FILE_BYTES_MAX + 1) done (omega arith) (omega (arith, h.within)) h.front)
