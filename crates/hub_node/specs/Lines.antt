-- The lines of a node, and which of them goes next.
use Rattle.std.specs.Prelude.{Bool, List, None, Option, Some, false, if◌then◌else◌, slice_get, true, ℕ}
use Rattle.std.specs.Option.{option_and_then, option_map}
use Rattle.base_types.specs.Name.{same_name}
use Rattle.script_lines.specs.declared.script.Deed.{Deed}
use Rattle.script_lines.specs.declared.script.Deed.TheVariants.{Await}
use Rattle.script_lines.specs.declared.script.Line.{Line}

-- a node's lines in their order, how many of them have gone, and the flag of which it was told last
pub record LinesView : Type 0 where
  pub lines : List Line
  pub gone : ℕ
  pub told : Option (List ℕ)

-- whether a line can go, as far as its flag decides: one that awaits a flag goes once its node was told of it
abbrev pub may_go : Option (List ℕ) → Deed → Bool
may_go (Some flag) (Await name) = same_name name flag
may_go None (Await name) = false
may_go told deed = true

-- the number of the next line, where one is left
abbrev pub next_number : LinesView → Option ℕ
next_number own = option_map (λ (line : Line). line.number) (slice_get own.lines own.gone)

-- the next line, where it can go
abbrev pub next_of : LinesView → Option Line
next_of own =
    option_and_then (λ (line : Line). if may_go own.told line.deed then Some line else None)
    (slice_get own.lines own.gone)
