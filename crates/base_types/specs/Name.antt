use Rattle.std.specs.Prelude.{ℕ, Bool, ◌==◌, ◌&&◌, ◌||◌, not, nat_eq, nat_le, List, length}
use Rattle.std.specs.List.{list_any}
use Rattle.std.specs.Ordering.{is_lt, nat_cmp}
use Rattle.std.specs.Cmp.Lexicographic.{pointwise, slice_cmp}
use Rattle.base_types.specs.declared.limits.TheConstants.{NAME_BYTES_MAX}

-- '/' and 0 separate names
abbrev pub is_separator : ℕ → Bool
is_separator byte = (byte == 47) || (byte == 0)

-- a name has at least one byte and at most so many, none of which separates names
abbrev pub is_name : List ℕ → Bool
is_name bytes = nat_le 1 (length bytes) && nat_le (length bytes) NAME_BYTES_MAX && not (list_any is_separator bytes)

-- whether two names are the same
abbrev pub same_name : List ℕ → List ℕ → Bool
same_name a b = pointwise nat_eq a b

-- whether a name is among those of a list
abbrev pub is_among : List (List ℕ) → List ℕ → Bool
is_among names name = list_any (λ other. same_name other name) names

-- whether a name comes before another, in the order of their bytes
abbrev pub is_before : List ℕ → List ℕ → Bool
is_before a b = is_lt (slice_cmp nat_cmp a b)
