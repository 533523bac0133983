-- Spans of a file.
use Rattle.std.specs.Prelude.{◌≤◌, ℕ, min}
use Rattle.std.proofs.Common.{arith}
use Rattle.base_types.specs.declared.span.Span.{Span}
use Rattle.base_types.specs.declared.limits.TheConstants.{FILE_BYTES_MAX}

-- the lesser is no greater
pub min_below : (a b : ℕ) → min a b ≤ b
min_below a b = omega arith

-- the bytes from a position on and before another, none of them behind the last byte that a file can have
abbrev pub span_between : ℕ → ℕ → Span
span_between from to = record {
  from = min from (min to FILE_BYTES_MAX);
  to = min to FILE_BYTES_MAX;
  ordered = min_below from (min to FILE_BYTES_MAX);
  within = min_below to FILE_BYTES_MAX;
}

-- all bytes that a file can have
abbrev pub whole : Span
whole = span_between 0 FILE_BYTES_MAX
