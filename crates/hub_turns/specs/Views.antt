-- What contracts see of a hub and of a node's pass.
use Rattle.std.specs.Prelude.{List, [], true, ℕ, ◌∷◌, ◌≡◌}
use Rattle.base_types.specs.declared.ids.Node.{Node}
use Rattle.tree_calls.specs.declared.roster.Roster.{Roster}
use Rattle.script_lines.specs.Sound.{same_node}
use Rattle.hub_cell.specs.Lists.{entries}
use Rattle.hub_cell.specs.Passes.{PassView, TableId}
use Rattle.hub_board.specs.Hubs.{Hubbed}
use Rattle.hub_board.specs.Turning.{Posted}
use Rattle.hub_board.specs.declared.given.Turn.{Turn}

-- what lies in the cell of a hub: the board, and who takes part
pub record Met : Type 0 where
  pub board : Posted
  pub roster : Roster

-- a hub: which one it is, how many nodes take turns at it, what lay in it at the start, and who takes part
pub record HubView : Type 0 where
  pub id : TableId
  pub nodes : ℕ
  pub first : Hubbed
  pub roster : Roster

-- a node's pass: whose it is, of which hub, the turns that it has seen, with which the list begins, and those that were
-- made through it, in order
pub record NodeView : Type 0 where
  pub node : Node
  pub hub : TableId
  pub seen : List Turn
  pub made : List Turn

-- each of these turns is the node's
abbrev pub AreOf : Node → List Turn → Type 0
AreOf node [] = Unit {0}
AreOf node (t ∷ turns) = (same_node t.node node ≡ true) × AreOf node turns

-- the pass of a cell that a node's pass is
pub record IsBare (pass : NodeView) (bare : PassView Turn) : Type 0 where
  pub cell : bare.cell ≡ pass.hub
  pub seen : bare.seen ≡ pass.seen
  pub made : entries bare.made ≡ pass.made
  pub spare : bare.spare ≡ 0
  pub own : AreOf pass.node pass.made

-- these are the passes of a cell that nodes' passes are, in order
abbrev pub AreBare : List NodeView → List (PassView Turn) → Type 0
AreBare [] bare = bare ≡ []
AreBare (pass ∷ passes) [] = ⊥
AreBare (pass ∷ passes) (one ∷ bare) = IsBare pass one × AreBare passes bare
