use Rattle.std.specs.Prelude.{ℕ, Bool, ◌&&◌, nat_le, nat_lt, min, max, List}
use Rattle.std.specs.List.{list_any}
use Rattle.base_types.specs.declared.span.Span.{Span}

-- whether some position lies in both
abbrev pub overlap : Span → Span → Bool
overlap a b = nat_lt (max a.from b.from) (min a.to b.to)

-- whether a position lies in a span
abbrev pub has_byte : Span → ℕ → Bool
has_byte span at = nat_le span.from at && nat_lt at span.to

-- whether a position lies in one of the spans
abbrev pub in_spans : List Span → ℕ → Bool
in_spans spans at = list_any (λ span. has_byte span at) spans
