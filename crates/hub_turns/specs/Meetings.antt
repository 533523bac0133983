-- What turns of nodes on threads do, and what the list has at the end.
use Rattle.std.specs.List.{All, filter}
use Rattle.std.specs.Prelude.{List, MatchBool, None, Option, Some, [], ◌<◌, ◌≤◌, vec_capacity, vec_len, false}
use Rattle.std.specs.Prelude.{length, map, ◌++◌, ◌∷◌, ◌≡◌}
use Rattle.base_types.specs.declared.ids.Node.{Node}
use Rattle.tree_calls.specs.declared.roster.Roster.{Roster}
use Rattle.message_types.specs.Soundness.{IsSound}
use Rattle.message_types.specs.declared.message.Message.{Message}
use Rattle.script_lines.specs.Sound.{same_node}
use Rattle.hub_cell.specs.Lists.{IsPrefix, IsShuffle}
use Rattle.hub_cell.specs.Passes.{TableId}
use Rattle.hub_board.specs.Hubs.{Hubbed}
use Rattle.hub_board.specs.Turning.{HasTurned, IsOf, IsUntouched, Posted, entered}
use Rattle.hub_board.specs.declared.given.Given.{Given}
use Rattle.hub_board.specs.declared.given.Given.TheVariants.{Message as Came}
use Rattle.hub_board.specs.declared.given.Turn.{Turn}
use Rattle.hub_turns.specs.Views.{HubView, Met, NodeView}
use Rattle.hub_turns.specs.declared.meeting.HubTurn.{HubTurn}
use Rattle.run_rules.specs.Past.{In}
use Rattle.run_rules.specs.declared.step.Step.{Step}
use Rattle.hub_wire.specs.Networks.{Network}
use Rattle.hub_wire.specs.declared.packet.Packet.{Packet}

-- there is room for what is given, and nothing is there yet
pub record IsReady (work : HubTurn) : Type 0 where
  pub empty : work.given.items ≡ []
  pub room : vec_len work.given < vec_capacity work.given
  pub fresh : work.refused ≡ false

-- the first of what was given
abbrev pub first_of : List Given → Option Given
first_of [] = None
first_of (given ∷ more) = Some given

-- each message that these steps send is sound
abbrev pub AreSent : Roster → List Step → Type 0
AreSent roster steps = (s : Step) → In s steps → (m : Message) → In m s.sent → IsSound roster m

-- so is each on its way
abbrev pub AreSound : Roster → Network → Type 0
AreSound roster net = (p : Packet) → In p net.packets → IsSound roster p.message

-- and one that is given
abbrev pub IsGivenSound : Roster → Option Given → Type 0
IsGivenSound roster given = (m : Message) → given ≡ Some (Came m) → IsSound roster m

-- What stays of what lies in a hub: it is what all turns have made of the first board, for the same roster, and what is
-- on its way is sound.
pub record IsSame (first now : Met) : Type 0 where
  pub board : IsOf first.board.hub now.board
  pub roster : now.roster ≡ first.roster
  pub sound : AreSound now.roster now.board.hub.net

-- a node's turn at the board, or nothing where memory ran out
pub record Turned (before after : Posted) (work work' : HubTurn) : Type 0 where
  pub turned : HasTurned before after work.node work.steps.steps (first_of work'.given.items)
  pub left : work'.steps.steps ≡ []
  pub one : length work'.given.items ≤ 1

pub record Refused (before after : Posted) (work work' : HubTurn) : Type 0 where
  pub untouched : IsUntouched before after
  pub kept : work'.steps ≡ work.steps

abbrev pub Does : HubTurn → Posted → HubTurn → Posted → Type 0
Does work before work' after =
    MatchBool work'.refused (Refused before after work work') (Turned before after work work')

-- the same in a hub, whose roster stays
pub record DoesIn (work : HubTurn) (before : Met) (work' : HubTurn) (after : Met) : Type 0 where
  pub done : Does work before.board work' after.board
  pub roster : after.roster ≡ before.roster

-- the pass of a node that has seen and made nothing
abbrev pub first_pass : TableId → Node → NodeView
first_pass hub node = record { node = node; hub = hub; seen = []; made = [] }

-- A node's pass was used for a turn: the list began with what it had seen, was what all turns before had made of the
-- first board, and what the turn added was made through the pass.
pub record IsUsed (first : Hubbed) (roster : Roster) (pass pass' : NodeView) (work work' : HubTurn) : Type 0 where
  pub before : Posted
  pub now : Posted
  pub sound : AreSound roster before.hub.net
  pub known : IsPrefix pass.seen before.turns
  pub was : IsOf first before
  pub is : IsOf first now
  pub done : Does work before work' now
  pub made : List Turn
  pub grown : now.turns ≡ before.turns ++ made
  pub pass_is : pass' ≡ record { node = pass.node; hub = pass.hub; seen = now.turns; made = pass.made ++ made }

-- A node has taken a turn: the list began with what its pass had seen, was what all turns before had made of the first
-- board, and has grown by the turn, which was made through the pass. It gave the first that there was.
pub record HasPassed (hub : HubView) (pass pass' : NodeView) (steps : List Step) (given : Option Given)
    : Type 0 where
  pub before : Posted
  pub now : Posted
  pub known : IsPrefix pass.seen before.turns
  pub was : IsOf hub.first before
  pub is : IsOf hub.first now
  pub turned : HasTurned before now pass.node steps given
  pub pass_is : pass' ≡ record {
    node = pass.node;
    hub = pass.hub;
    seen = now.turns;
    made = pass.made ++ entered pass.node steps turned.gift_is;
  }

-- nothing was made through the pass; it may have seen more
pub record IsRefused (pass pass' : NodeView) : Type 0 where
  pub known : IsPrefix pass.seen pass'.seen
  pub pass_is : pass' ≡ record pass { seen = pass'.seen }

-- these are passes of the hub, as many as it has
pub record AreAllPasses (hub : HubView) (passes : List NodeView) : Type 0 where
  pub of_hub : All (λ p. p.hub ≡ hub.id) passes
  pub all : length passes ≡ hub.nodes

-- the turns of a node
abbrev pub turns_of : Node → List Turn → List Turn
turns_of node turns = filter (λ t. same_node t.node node) turns

-- the list at the end: what all turns have made of the first board, and what was made through these passes
pub record HasEnded (hub : HubView) (turns : List Turn) (passes : List NodeView) : Type 0 where
  pub board : Posted
  pub list : board.turns ≡ turns
  pub whole : IsOf hub.first board
  -- it has what was made through the passes and no more, each turn once, those of one pass in its order
  pub made : IsShuffle turns (map (λ p. p.made) passes)
  pub seen : All (λ p. IsPrefix p.seen turns) passes
  -- where no other pass is of its node, what was made through a pass is exactly the node's turns
  pub own : (earlier later : List NodeView) (pass : NodeView) → passes ≡ earlier ++ pass ∷ later
      → All (λ p. same_node p.node pass.node ≡ false) (earlier ++ later) → turns_of pass.node turns ≡ pass.made
