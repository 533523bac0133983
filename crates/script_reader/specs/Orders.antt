-- Orders in which the lines of a script go.
use Rattle.std.specs.Prelude.{◌≡◌, ◌&&◌, Bool, true, not, ℕ, List, [], ◌∷◌, ◌++◌, filter}
use Rattle.base_types.specs.declared.ids.Node.{Node}
use Rattle.script_lines.specs.Sound.{is_of}
use Rattle.script_lines.specs.declared.script.Line.{Line}
use Rattle.script_lines.specs.declared.script.Deed.{Deed}
use Rattle.script_lines.specs.declared.script.Deed.TheVariants.{Raise}
use Rattle.script_reader.specs.Walk.{can_go}

-- the flags that are raised after a deed
abbrev pub flags_after : List (List ℕ) → Deed → List (List ℕ)
flags_after flags (Raise flag) = flags ++ flag ∷ []
flags_after flags _ = flags

-- the flags that are raised after lines
abbrev pub flags_from : List (List ℕ) → List Line → List (List ℕ)
flags_from flags [] = flags
flags_from flags (line ∷ lines) = flags_from (flags_after flags line.deed) lines

-- the flags that lines raise
abbrev pub flags_of : List Line → List (List ℕ)
flags_of lines = flags_from [] lines

-- whether, of lines that go in this order, each that awaits a flag comes after the one that raised it
abbrev pub flags_met : List (List ℕ) → List Line → Bool
flags_met flags [] = true
flags_met flags (line ∷ lines) = can_go flags line.deed && flags_met (flags_after flags line.deed) lines

-- lines that went in this order, where `left` says what each node has left
pub record IsBegun (lines went : List Line) (left : Node → List Line) : Type 0 where
  pub each : (node : Node) → filter (is_of node) went ++ left node ≡ filter (is_of node) lines
  pub met : flags_met [] went ≡ true

-- an order in which all lines go
pub record IsOrder (lines order : List Line) : Type 0 where
  pub each : (node : Node) → filter (is_of node) order ≡ filter (is_of node) lines
  pub met : flags_met [] order ≡ true

-- whether a node that has these lines left can't go on
abbrev pub stands : List (List ℕ) → List Line → Bool
stands flags [] = true
stands flags (line ∷ lines) = not (can_go flags line.deed)

-- whether no node can go on
abbrev pub AllStand : List Line → (Node → List Line) → Type 0
AllStand went left = (node : Node) → stands (flags_of went) (left node) ≡ true
