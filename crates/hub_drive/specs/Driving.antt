-- What comes of a run that nodes were driven through.
use Rattle.std.specs.List.{filter}
use Rattle.std.specs.Prelude.{List, None, Option, Some, [], false, length, map, slice_index_or, ◌<◌, ◌∷◌, ◌≡◌, ◌≤◌}
use Rattle.std.specs.Prelude.{◌⊎◌, ℕ}
use Rattle.base_types.specs.declared.ids.Node.{Node}
use Rattle.base_types.specs.declared.limits.TheConstants.{HOSTS_MAX, SERVERS_MAX}
use Rattle.tree_answers.specs.declared.tree.Tree.{Tree}
use Rattle.message_types.specs.declared.message.Message.{Message}
use Rattle.script_lines.specs.declared.script.Script.{Script}
use Rattle.hub_board.specs.Hubs.{first_hub, nodes_of}
use Rattle.hub_board.specs.Turning.{steps_of}
use Rattle.hub_board.specs.declared.given.Turn.{Turn}
use Rattle.run_rules.specs.Past.{Always, In, appended}
use Rattle.run_rules.specs.Plans.{IsPlanned, sent_in}
use Rattle.run_rules.specs.Runs.{IsDutiful, IsEnded, IsRun, IsValid, past_of}
use Rattle.run_rules.specs.Steps.{is_node}
use Rattle.hub_turns.specs.Views.{HubView}
use Rattle.run_rules.specs.declared.journal.Journal.{Journal}
use Rattle.run_rules.specs.declared.step.Step.{Step}
use Rattle.hub_laws.specs.Keeping.{Round, messages_given, steps_in}
use Rattle.hub_node.specs.Nodes.{Beginning, IsDone, Knows, OwnMeets, Part, part_of}
use Rattle.hub_drive.specs.declared.driver.DriveFault.{DriveFault}
use Rattle.hub_drive.specs.declared.driver.DriveFault.TheVariants.{Memory, Store, Stuck}
use Rattle.hub_drive.specs.declared.driver.Waiting.{Waiting}
use Rattle.hub_node.specs.declared.node.NodeFault.{NodeFault}
use Rattle.hub_node.specs.declared.node.NodeFault.TheVariants.{Store as StoreFailed}
use Rattle.hub_drive.specs.Seats.{HasComeTo}
use Rattle.hub_drive.specs.declared.seat.Seat.{Seat}

-- what a run of a script can begin from
pub record CanStart (script : Script) (start : Tree) (epochs : List ℕ) : Type 0 where
  pub valid : IsValid start
  pub roster : start.roster ≡ script.roster
  pub counted : length epochs ≡ length script.roster.capacity
  pub servers : script.servers ≡ length script.roster.capacity
  pub hosts_few : length script.roster.hosts ≤ HOSTS_MAX
  pub servers_few : script.servers ≤ SERVERS_MAX

abbrev pub beginning : Script → Tree → List ℕ → Beginning
beginning script start epochs = record { script = script; start = start; epochs = epochs }

-- these are the nodes of a run, in their order, each as it is before its first turn
pub record AreNodes {N : Type 0} (stands : Part → N → List Round → List Step → Type 0) (run : Beginning)
    (nodes : List N) : Type 0 where
  pub count : length nodes ≡ length (nodes_of run.script)
  pub fresh : (i : ℕ) (n : N) (node : Node) → i < length nodes
      → stands (part_of run (slice_index_or (nodes_of run.script) i node)) (slice_index_or nodes i n) [] []

-- a hub at the start of a script, where no server keeps room for filesets that moved away
pub record IsHubOf (script : Script) (hub : HubView) : Type 0 where
  pub first : hub.first ≡ first_hub script []
  pub nodes : hub.nodes ≡ length (nodes_of script)
  pub roster : hub.roster ≡ script.roster

-- a node's own steps in a journal, the newest first
abbrev pub own_steps : Journal → Node → List Step
own_steps journal node = filter (λ s. is_node s.node node) (past_of journal)

-- a node stands where its own steps in a journal have brought it, with nothing more to hand in
pub record StandsAfter {N : Type 0} (stands : Part → N → List Round → List Step → Type 0) (run : Beginning)
    (journal : Journal) (node : Node) (n : N) : Type 0 where
  pub rounds : List Round
  pub stood : stands (part_of run node) n rounds []
  pub own : own_steps journal node ≡ steps_in rounds

-- so do all nodes of a run
abbrev pub StandAfter : {N : Type 0} → (Part → N → List Round → List Step → Type 0) → Beginning → Journal → List N
    → Type 0
StandAfter {N = N} stands run journal nodes = (i : ℕ) (n : N) (node : Node) → i < length nodes
    → StandsAfter stands run journal (slice_index_or (nodes_of run.script) i node) (slice_index_or nodes i n)

-- The run went to its end: its journal starts from the tree and in the epochs, and keeps to the plan of the script;
-- each host's own steps meet its rules, and it is done, and so it is with the servers where it is known what their
-- stores keep; then the journal is a run of the script, in which what is due is done, and is ended; and each node
-- stands where its own steps in it have brought it.
pub record HasDriven {N : Type 0} (tells : Type 0) (stands : Part → N → List Round → List Step → Type 0)
    (script : Script) (start : Tree) (epochs : List ℕ) (nodes : List N) (journal : Journal) : Type 0 where
  pub starts : journal.start ≡ start ∷ []
  pub epochs_are : journal.epochs ≡ epochs
  pub planned : IsPlanned script journal
  pub rules : (node : Node) → In node (nodes_of script) → Knows tells node
      → Always (OwnMeets (beginning script start epochs) node) (own_steps journal node)
  pub done : (node : Node) → In node (nodes_of script) → Knows tells node
      → IsDone (beginning script start epochs) node (own_steps journal node)
  pub run : tells → IsRun script journal
  pub dutiful : tells → IsDutiful script journal
  pub ended : tells → IsEnded script journal
  pub count : length nodes ≡ length (nodes_of script)
  pub stand : StandAfter stands (beginning script start epochs) journal nodes

-- A node has stood where its own steps in a journal brought it: so it did as it was when it handed in the last of them,
-- or before its first turn. It stands there still, with some steps that it has made since; or something failed there
-- since then. Each message that it was given was sent in the journal.
pub record HasStoodAfter {N : Type 0} (stands : Part → N → List Round → List Step → Type 0) (stays : N → N → Type 0)
    (failed : NodeFault → N → N → Type 0) (broken : Part → N → List Round → Type 0) (run : Beginning)
    (journal : Journal) (node : Node) (n : N) : Type 0 where
  pub rounds : List Round
  pub own : own_steps journal node ≡ steps_in rounds
  pub sent : (m : Message) → In m (messages_given rounds) → In m (sent_in (past_of journal))
  pub before : N
  pub past : List Round
  pub handed : List Step
  pub stood : stands (part_of run node) before past handed
  pub whole : steps_in rounds ≡ appended handed (steps_in past)
  pub since : HasComeTo stands stays failed broken (part_of run node) rounds before n

-- What is left of a node beside a journal: it stands on its own steps there, and on these, which it has made since it
-- handed any in, and so on no others; or something failed there.
pub record IsLeft {N : Type 0} (stands : Part → N → List Round → List Step → Type 0)
    (failed : NodeFault → N → N → Type 0) (run : Beginning) (journal : Journal) (node : Node) (n : N)
    (left : List Step) : Type 0 where
  pub rounds : List Round
  pub own : own_steps journal node ≡ steps_in rounds
  pub stands_on : stands (part_of run node) n rounds left
      ⊎ ((fault : NodeFault) × ((before : N) × failed fault before n))

-- it is so of each of the nodes of a run
pub record AreLeft {N : Type 0} (stands : Part → N → List Round → List Step → Type 0)
    (failed : NodeFault → N → N → Type 0) (run : Beginning) (nodes : List N) (left : List (List Step))
    (journal : Journal) : Type 0 where
  pub count : length left ≡ length nodes
  pub each : (i : ℕ) (n : N) (node : Node) → i < length nodes
      → IsLeft stands failed run journal (slice_index_or (nodes_of run.script) i node) (slice_index_or nodes i n)
      (slice_index_or left i [])

-- The run came to no end: the journal so far starts from the tree and in the epochs, and keeps to the plan of the
-- script; each host's own steps meet its rules, and so it is with the servers where it is known what their stores keep;
-- then it is a run of the script, in which what is due is done. Each node stood where its own steps in it brought it,
-- as it was when it handed in the last of them. Which steps it has made since, that aren't in it, is told by what is
-- left (`AreLeft`).
pub record HasStopped {N : Type 0} (tells : Type 0) (stands : Part → N → List Round → List Step → Type 0)
    (stays : N → N → Type 0) (failed : NodeFault → N → N → Type 0) (broken : Part → N → List Round → Type 0)
    (script : Script) (start : Tree) (epochs : List ℕ)
    (nodes : List N) (journal : Journal) : Type 0 where
  pub starts : journal.start ≡ start ∷ []
  pub epochs_are : journal.epochs ≡ epochs
  pub planned : IsPlanned script journal
  pub rules : (node : Node) → In node (nodes_of script) → Knows tells node
      → Always (OwnMeets (beginning script start epochs) node) (own_steps journal node)
  pub run : tells → IsRun script journal
  pub dutiful : tells → IsDutiful script journal
  pub count : length nodes ≡ length (nodes_of script)
  pub stood : (i : ℕ) (n : N) (node : Node) → i < length nodes
      → HasStoodAfter stands stays failed broken (beginning script start epochs) journal
      (slice_index_or (nodes_of script) i node) (slice_index_or nodes i n)

-- a journal from a tree and in these epochs, with the steps of these turns
pub record IsJournalOf (start : Tree) (epochs : List ℕ) (turns : List Turn) (journal : Journal) : Type 0 where
  pub starts : journal.start ≡ start ∷ []
  pub epochs_are : journal.epochs ≡ epochs
  pub steps : journal.steps ≡ steps_of turns

-- a node has come to rest: in its newest round it handed in nothing and was given nothing, and it has made nothing
pub record HasRested {N : Type 0} (stands : Part → N → List Round → List Step → Type 0) (part : Part) (n : N)
    : Type 0 where
  pub before : List Round
  pub stood : stands part n (record { steps = []; given = None } ∷ before) []

-- so has each of the nodes of a run
abbrev pub HaveRested : {N : Type 0} → (Part → N → List Round → List Step → Type 0) → Beginning → List N → Type 0
HaveRested {N = N} stands run nodes = (i : ℕ) (n : N) (node : Node) → i < length nodes
    → HasRested stands (part_of run (slice_index_or (nodes_of run.script) i node)) (slice_index_or nodes i n)

-- a node has come to rest, and isn't done by its own steps, as far as is known what its store keeps
pub record IsUndone {N : Type 0} (tells : Type 0) (stands : Part → N → List Round → List Step → Type 0) (part : Part)
    (n : N) : Type 0 where
  pub rested : HasRested stands part n
  pub undone : Knows tells part.node → IsDone part.run part.node (steps_in rested.before) → ⊥

-- so it is with the node at this place
abbrev pub IsUndoneAt : {N : Type 0} → Type 0 → (Part → N → List Round → List Step → Type 0) → Beginning → List N → ℕ
    → Type 0
IsUndoneAt {N = N} tells stands run nodes k = (n : N) (node : Node)
    → IsUndone tells stands (part_of run (slice_index_or (nodes_of run.script) k node)) (slice_index_or nodes k n)

-- it is one of these nodes, with its next line
abbrev pub IsWaitingAt : {N : Type 0} → (N → Option ℕ) → List N → Waiting → Type 0
IsWaitingAt next nodes w = (w.node < length nodes) × ((d : _) → w.line ≡ next (slice_index_or nodes w.node d))

-- why a run came to no end: the store of the node at a place failed, or all nodes have come to rest, of which one that
-- isn't done is named with its next line
abbrev pub IsFault : {N : Type 0} → Type 0 → (Part → N → List Round → List Step → Type 0) → Beginning
    → (NodeFault → N → N → Type 0) → (N → Option ℕ) → List N → List N → DriveFault → Type 0
IsFault tells stands run failed next olds news (Store k) =
    (k < length olds) × ((d : _) → failed StoreFailed (slice_index_or olds k d) (slice_index_or news k d))
IsFault tells stands run failed next olds news (Stuck w) =
    IsWaitingAt next news w × HaveRested stands run news × IsUndoneAt tells stands run news w.node
IsFault tells stands run failed next olds news Memory = Unit {0}

-- the same as it shows in the seats
abbrev pub ShowsFault : {N : Type 0} → (N → Option ℕ) → List (Seat N) → DriveFault → Type 0
ShowsFault next seats (Store k) =
    (k < length seats) × ((d : _) → (slice_index_or seats k d).fault ≡ Some StoreFailed)
ShowsFault next seats (Stuck w) =
    IsWaitingAt next (map (λ s. s.node) seats) w × ((d : _) → (slice_index_or seats w.node d).ended ≡ false)
ShowsFault next seats Memory = Unit {0}

-- memory ran out: nothing is said of any node
abbrev pub IsFree : DriveFault → Type 0
IsFree Memory = Unit {0}
IsFree _ = ⊥
