-- What the cause of a refused line depends on, and what is the same in every order of lines.
use Rattle.std.specs.Prelude.{◌≡◌, ℕ, ◌≤◌, true, List, [], ◌∷◌, ◌++◌, ◌↔◌, Some, None, Err}
use Rattle.std.specs.List.{AllByRecursion}
use Rattle.script_lines.specs.Clones.{ClonesNothing}
use Rattle.script_lines.specs.Sound.{numbers_rise}
use Rattle.script_lines.specs.declared.context.Context.{Context}
use Rattle.script_reader.specs.Scripts.{judged_from}
use Rattle.base_types.specs.declared.ids.Node.{Node}
use Rattle.script_lines.specs.declared.script.Line.{Line}
use Rattle.script_reader.specs.Walk.{stuck_at}
use Rattle.script_reader.specs.Orders.{IsBegun, IsOrder, AllStand}
use Rattle.script_reader.specs.declared.refused.ScriptRefused.{ScriptRefused}

-- lines after a refused one don't change why it is refused, but by the names that clones among them place
abbrev pub LaterLinesChangeNothing : Type 0
LaterLinesChangeNothing =
    (context : Context) (disks number : ℕ) (lines more : List (List ℕ)) (refusal : ScriptRefused)
    → AllByRecursion ClonesNothing more
    → judged_from context disks number lines ≡ Err refusal
    → judged_from context disks number (lines ++ more) ≡ Err refusal

-- whatever the order in which lines go, each node has the same left when none can go on
abbrev pub OrdersLeaveTheSame : Type 0
OrdersLeaveTheSame =
    (lines went other : List Line) (left rest : Node → List Line)
    → IsBegun lines went left → IsBegun lines other rest
    → AllStand went left → AllStand other rest
    → (node : Node) → left node ≡ rest node

-- a node that stands at the line with a number
pub record StandsAt (left : Node → List Line) (number : ℕ) : Type 0 where
  pub node : Node
  pub line : Line
  pub more : List Line
  pub stands : left node ≡ line ∷ more
  pub is : line.number ≡ number

-- lines that aren't stuck all go, in every order
abbrev pub AllLinesGo : Type 0
AllLinesGo =
    (lines went : List Line) (left : Node → List Line)
    → stuck_at lines ≡ None
    → IsBegun lines went left → AllStand went left
    → (node : Node) → left node ≡ []

-- where lines are stuck, whatever the order in which they went, that is told by the least number of a line at which a
-- node stands
abbrev pub StuckNamesLeast : Type 0
StuckNamesLeast =
    (lines went : List Line) (left : Node → List Line) (number : ℕ)
    → numbers_rise 0 lines ≡ true
    → IsBegun lines went left → AllStand went left
    → stuck_at lines ≡ Some number
    → StandsAt left number
    × ((node : Node) (line : Line) (more : List Line) → left node ≡ line ∷ more → number ≤ line.number)

-- lines are stuck exactly where they go in no order
abbrev pub StuckWithoutOrder : Type 0
StuckWithoutOrder = (lines : List Line) → (stuck_at lines ≡ None) ↔ ((order : List Line) × IsOrder lines order)
