-- Sets of positions, as lists of spans.
use Rattle.std.specs.Prelude.{◌≡◌, ◌≤◌, ◌<◌, ◌+◌, ℕ, IsTrue, ◌&&◌, ◌||◌, not, nat_le, nat_lt, List, [], ◌∷◌}
use Rattle.base_types.specs.declared.limits.TheConstants.{FILE_BYTES_MAX}
use Rattle.base_types.specs.Spans.{has_byte, in_spans}
use Rattle.base_types.specs.declared.span.Span.{Span}

-- the spans are in order, none is empty, and no two touch: the first begins at `low` or later, and all end before
-- `high`
abbrev pub IsApartBetween : ℕ → List Span → ℕ → Type 0
IsApartBetween low [] high = low ≤ high
IsApartBetween low (span ∷ spans) high =
    (low ≤ span.from) × (span.from < span.to) × IsApartBetween (span.to + 1) spans high

-- the spans are in order, none is empty, and no two touch
abbrev pub IsApart : List Span → Type 0
IsApart spans = IsApartBetween 0 spans (FILE_BYTES_MAX + 1)

-- the positions of the set and those of the span
unfoldable pub Joins : List Span → Span → List Span → Type 0
Joins old span new = (at : ℕ) → in_spans new at ≡ (in_spans old at || has_byte span at)

-- the positions of the set outside the span
unfoldable pub Leaves : List Span → Span → List Span → Type 0
Leaves old span new = (at : ℕ) → in_spans new at ≡ (in_spans old at && not (has_byte span at))

-- each position of the span is in the set
unfoldable pub HasAll : List Span → Span → Type 0
HasAll spans span = (at : ℕ) → IsTrue (has_byte span at) → IsTrue (in_spans spans at)

-- The positions of the span that aren't in the set. As these are apart, each is as long as can be.
pub record Misses (spans : List Span) (span : Span) (gaps : List Span) : Type 0 where
  pub apart : IsApart gaps
  pub positions : (at : ℕ) → in_spans gaps at ≡ (has_byte span at && not (in_spans spans at))

-- the positions of the set, and those between two places
abbrev pub AddsBetween : List Span → ℕ → ℕ → List Span → Type 0
AddsBetween old from to new = (at : ℕ) → in_spans new at ≡ (in_spans old at || (nat_le from at && nat_lt at to))

-- what was apart is so with the span between two places behind it
abbrev pub StaysApart : List Span → ℕ → ℕ → List Span → Type 0
StaysApart old from to new =
    (low high : ℕ) → to < high → IsApartBetween low old from → IsApartBetween low old high → IsApartBetween low new high
