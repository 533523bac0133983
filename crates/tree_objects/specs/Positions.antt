-- The positions of unsaved bytes.
use Rattle.std.specs.Prelude.{ℕ, ◌+◌, nat_lt, Bool, true, ◌&&◌, List, [], ◌∷◌}
use Rattle.std.specs.List.{list_all}
use Rattle.base_types.specs.declared.ids.HostId.{HostId}
use Rattle.tree_objects.specs.declared.content.Unsaved.{Unsaved}

-- whether unsaved bytes stand at rising positions, so that each position has at most one
abbrev pub positions_rise : List Unsaved → Bool
positions_rise [] = true
positions_rise (byte ∷ bytes) = list_all (λ other. nat_lt byte.at other.at) bytes && positions_rise bytes

-- what a host writes from a position on
abbrev pub written : HostId → ℕ → List ℕ → List Unsaved
written host at [] = []
written host at (value ∷ values) = record { at = at; value = value; writer = host } ∷ written host (at + 1) values
