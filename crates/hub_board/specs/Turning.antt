-- What a turn at the board does.
use Rattle.std.specs.Prelude.{List, None, Option, Some, [], flat_map, ℕ, ◌++◌, ◌<◌, ◌∷◌, ◌≡◌}
use Rattle.base_types.specs.declared.ids.Node.{Node}
use Rattle.run_rules.specs.declared.step.Step.{Step}
use Rattle.hub_board.specs.Hubs.{AreGiven, Hubbed, after, gift_for, given_of, with_sent, with_steps, without}
use Rattle.hub_board.specs.declared.given.Gift.{Gift}
use Rattle.hub_board.specs.declared.given.Given.{Given}
use Rattle.hub_board.specs.declared.given.Turn.{Turn}

-- what contracts see of a board: the list of turns, what they have come to, and room for so many turns more
pub record Posted : Type 0 where
  pub turns : List Turn
  pub hub : Hubbed
  pub spare : ℕ

-- a turn that handed nothing in and gave nothing leaves the list as it is
abbrev pub entered : Node → List Step → Option Gift → List Turn
entered node [] None = []
entered node [] (Some gift) = record { node = node; steps = []; gift = Some gift } ∷ []
entered node (s ∷ steps) gift = record { node = node; steps = s ∷ steps; gift = gift } ∷ []

-- nothing was handed in, and nothing given
pub record IsUntouched (before after : Posted) : Type 0 where
  pub turns : after.turns ≡ before.turns
  pub hub : after.hub ≡ before.hub

-- what these steps send is on its way, and there is room for a turn
pub record IsPrepared (before after : Posted) (steps : List Step) : Type 0 where
  pub turns : after.turns ≡ before.turns
  pub hub : after.hub ≡ record before.hub { net = with_sent before.hub.net steps }
  pub room : 0 < after.spare

-- The steps were handed in, and the first that there was for the node was given: `given` is that.
pub record HasTurned (before after : Posted) (node : Node) (steps : List Step) (given : Option Given) : Type 0 where
  pub gift_is : Option Gift
  pub first : gift_is ≡ gift_for (with_steps before.hub node steps) node
  pub turns : after.turns ≡ before.turns ++ entered node steps gift_is
  pub hub : after.hub ≡ without gift_is node (with_steps before.hub node steps)
  pub given_is : given ≡ given_of (with_steps before.hub node steps) node gift_is

-- The board is what its turns made of the first one, and each turn gave what there was.
pub record IsOf (first : Hubbed) (board : Posted) : Type 0 where
  pub hub : board.hub ≡ after first board.turns
  pub given : AreGiven first board.turns

-- the steps of turns, in order: those of a journal
abbrev pub steps_of : List Turn → List Step
steps_of turns = flat_map (λ t. t.steps) turns
