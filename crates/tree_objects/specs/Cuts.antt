-- Where the unsaved bytes of a span stand among others.
use Rattle.std.specs.Prelude.{◌≡◌, ◌≤◌, ℕ, min, max, nat_lt, nat_le, true, if◌then◌else◌, List, length, take, drop}
use Rattle.std.specs.List.{fold, list_all}
use Rattle.base_types.specs.declared.limits.TheConstants.{FILE_BYTES_MAX}
use Rattle.base_types.specs.declared.span.Span.{Span}
use Rattle.tree_objects.specs.declared.stretch.Stretch.{Stretch}
use Rattle.tree_objects.specs.Stretches.{all_bytes}

-- a part of the stretches: before it stand only bytes below a span, and behind it only bytes from its end on
pub record IsCut (stretches : List Stretch) (from to first last : ℕ) : Type 0 where
  pub ordered : first ≤ last
  pub inside : last ≤ length stretches
  pub below : list_all (λ byte. nat_lt byte.at from) (all_bytes (take first stretches)) ≡ true
  pub above : list_all (λ byte. nat_le to byte.at) (all_bytes (drop last stretches)) ≡ true

-- the first position that spans begin at, and `end` where none begins before it
abbrev pub first_of : List Span → ℕ → ℕ
first_of spans end = fold (λ from span. min from span.from) end spans

-- the last position that spans end before, and 0 of none
abbrev pub end_of : List Span → ℕ
end_of spans = fold (λ to span. max to span.to) 0 spans

-- the first position behind another that spans begin at, and the end of the longest file where none begins there
abbrev pub next_of : List Span → ℕ → ℕ
next_of spans at = fold (λ next span. if nat_lt at span.from then min next span.from else next) FILE_BYTES_MAX spans
