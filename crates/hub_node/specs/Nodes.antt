-- What a node keeps to, by its own steps alone. Lists of steps and rounds have the newest first.
use Rattle.std.specs.Prelude.{List, Option, Some, length, true, ◌≡◌, ◌⊎◌, ℕ}
use Rattle.base_types.specs.declared.ids.HostId.{HostId}
use Rattle.base_types.specs.declared.ids.Node.{Node}
use Rattle.base_types.specs.declared.ids.Node.TheVariants.{Host, Server}
use Rattle.base_types.specs.declared.ids.ServerId.{ServerId}
use Rattle.tree_answers.specs.declared.tree.Tree.{Tree}
use Rattle.message_types.specs.Soundness.{IsSound}
use Rattle.message_types.specs.declared.message.Message.{Message}
use Rattle.script_lines.specs.Sound.{same_node}
use Rattle.script_lines.specs.declared.script.Script.{Script}
use Rattle.hub_board.specs.declared.given.Given.{Given}
use Rattle.hub_board.specs.declared.given.Given.TheVariants.{Message as Came}
use Rattle.run_rules.specs.Doings.{HasGoneAway, Listed, doings_of}
use Rattle.run_rules.specs.HostDue.{HostDue}
use Rattle.run_rules.specs.HostMay.{HostMay}
use Rattle.run_rules.specs.Messages.{HasBye, HasGreeted, HasStopped}
use Rattle.run_rules.specs.Past.{Always, appended}
use Rattle.run_rules.specs.Plans.{receiver}
use Rattle.run_rules.specs.ServerDue.{ServerDue}
use Rattle.run_rules.specs.ServerMay.{ServerMay}
use Rattle.run_rules.specs.Steps.{first_epoch, lines_gone, lines_of}
use Rattle.run_rules.specs.declared.step.Step.{Step}
use Rattle.hub_laws.specs.Keeping.{Round, steps_in}
use Rattle.hub_laws.specs.Closings.{KeepsOn}
use Rattle.hub_node.specs.declared.node.NodeFault.{NodeFault}

-- how a run begins: of which script, from which tree, and in which epochs the servers start
pub record Beginning : Type 0 where
  pub script : Script
  pub start : Tree
  pub epochs : List ℕ

-- a node's part in a run: how that begins, and who the node is
pub record Part : Type 0 where
  pub run : Beginning
  pub node : Node

abbrev pub part_of : Beginning → Node → Part
part_of run node = record { run = run; node = node }

-- the epoch in which a server starts
abbrev pub first_at : Beginning → ServerId → ℕ
first_at run server = first_epoch run.epochs server

-- a step meets the rules of its node, behind the node's own earlier steps: it is one that the node may do, and what is
-- due is done
abbrev pub OwnMeets : Beginning → Node → List Step → Step → Type 0
OwnMeets run (Host host) own s = HostMay run.script host own s × HostDue run.script host own s
OwnMeets run (Server server) own s =
    let past = doings_of (first_at run server) server own in
    ServerMay run.script run.start server own past s × ServerDue run.script run.start server own past s

-- a node is done by its own steps: its lines have gone; a host has stopped or has the Bye of each server that it
-- greeted; of a server each host that it knows is away
abbrev pub IsDone : Beginning → Node → List Step → Type 0
IsDone run (Host host) own = (lines_gone own ≡ length (lines_of run.script (Host host)))
    × (HasStopped own ⊎ ((server : ServerId) → HasGreeted own server → HasBye own server))
IsDone run (Server server) own = (lines_gone own ≡ length (lines_of run.script (Server server)))
    × ((host : HostId) → let past = doings_of (first_at run server) server own in
    Listed past host → HasGoneAway past host)

-- a message that is given is for the node, and sound
pub record IsGivenTo (part : Part) (given : Option Given) : Type 0 where
  pub own : (m : Message) → given ≡ Some (Came m) → same_node (receiver m) part.node ≡ true
  pub sound : (m : Message) → given ≡ Some (Came m) → IsSound part.run.script.roster m

-- what has to be known of stores for a node's rules: of a host's nothing
abbrev pub Knows : Type 0 → Node → Type 0
Knows tells (Host host) = Unit {0}
Knows tells (Server server) = tells

-- Behind these rounds a node may hand in these steps, whatever it is then given: it keeps to what it was given; and
-- all its steps meet its rules, those of a server where it is known what its store keeps.
pub record MayHandIn (tells : Type 0) (part : Part) (past : List Round) (made : List Step) : Type 0 where
  pub keeps : (given : Option Given)
      → KeepsOn part.run.script part.node past (record { steps = made; given = given })
  pub meets : Knows tells part.node → Always (OwnMeets part.run part.node) (appended made (steps_in past))

-- a node that may hand in what it has, whatever its part is, and whatever rounds have brought it where it stands
abbrev pub HandsIn : {N : Type 0} → Type 0 → (Part → N → List Round → List Step → Type 0) → N → Type 0
HandsIn tells stands n = (part : Part) (past : List Round) (made : List Step) → stands part n past made
    → MayHandIn tells part past made

-- what has become of a node: what stays of it, or that something failed there
abbrev pub HasBecome : {N : Type 0} → (N → N → Type 0) → (NodeFault → N → N → Type 0) → N → N → Type 0
HasBecome {N = N} stays failed old new = stays old new ⊎ ((fault : NodeFault) × failed fault old new)
