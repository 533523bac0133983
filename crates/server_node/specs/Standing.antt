-- Where a server stands in a run, as a node. What its store is known to keep is said where the store tells it.
use Rattle.std.specs.Prelude.{List, Option, Some, [], is_some, length, true, ℕ, ◌++◌, ◌∷◌, ◌≡◌, ◌≤◌}
use Rattle.base_types.specs.declared.ids.HostId.{HostId}
use Rattle.base_types.specs.declared.ids.Node.{Node}
use Rattle.base_types.specs.declared.ids.Node.TheVariants.{Host, Server}
use Rattle.base_types.specs.declared.ids.ServerId.{ServerId}
use Rattle.tree_answers.specs.declared.tree.Tree.{Tree}
use Rattle.tree_calls.specs.Rosters.{user_of}
use Rattle.message_types.specs.Soundness.{Each, IsHost, IsSound as IsSoundFor}
use Rattle.message_types.specs.declared.message.Direction.TheVariants.{ToServer}
use Rattle.message_types.specs.declared.message.Message.{Message}
use Rattle.script_lines.specs.Sound.{IsSound, same_node}
use Rattle.script_lines.specs.declared.script.Line.{Line}
use Rattle.store_laws.specs.TreeKeeping.{KeepsOf}
use Rattle.store_memory.specs.Views.{IsSameStore, View}
use Rattle.store_state.specs.declared.state.StoreState.{StoreState}
use Rattle.run_rules.specs.Doings.{Doing, doings_of}
use Rattle.run_rules.specs.Kept.{filesets_first, filesets_kept}
use Rattle.run_rules.specs.Past.{In, appended}
use Rattle.run_rules.specs.Plans.{receiver}
use Rattle.run_rules.specs.Steps.{lines_gone, lines_of}
use Rattle.run_rules.specs.Wants.{IsQueued, body_of}
use Rattle.run_rules.specs.declared.applied.Wanted.{Wanted}
use Rattle.run_rules.specs.declared.step.Step.{Step}
use Rattle.hub_board.specs.declared.given.Given.{Given}
use Rattle.hub_board.specs.declared.given.Given.TheVariants.{Message as Came}
use Rattle.hub_laws.specs.Keeping.{Round, WasTold, messages_given, messages_taken, steps_in}
use Rattle.hub_laws.specs.Taking.{Embeds}
use Rattle.hub_node.specs.Keeping.{HasKeptOn}
use Rattle.hub_node.specs.Lines.{LinesView, next_of}
use Rattle.hub_node.specs.Nodes.{Beginning, Part, first_at}
use Rattle.hub_node.specs.declared.node.NodeFault.{NodeFault}
use Rattle.hub_node.specs.declared.node.NodeFault.TheVariants.{Store as StoreFailed}
use Rattle.server_exporter.specs.Messages.{IsFor as IsForServer}
use Rattle.server_exporter.specs.Serving.{AreBrought, IsServed}
use Rattle.server_exporter.specs.Machines.{IsAt, Keeps}
pub use Rattle.server_exporter.specs.Keepers.{HasCome}
use Rattle.server_exporter.specs.Keepers.{FailedTwice, IsFit, IsWorn}
use Rattle.server_tables.specs.Sound.{AreSound}
use Rattle.server_tables.specs.declared.tables.Tables.{Tables}
use Rattle.server_node.specs.declared.server.ServerNode.{ServerNode}

-- the server that a node is
abbrev pub server_of : Node → ServerId
server_of (Server server) = server
server_of (Host host) = record { 0 = 0 }

-- what a server's own steps are to it: its doings in them, and what it keeps by the rules
abbrev pub doings_in : Beginning → ServerId → List Step → List Doing
doings_in run server own = doings_of (first_at run server) server own

abbrev pub kept_in : Beginning → ServerId → List Step → Tree
kept_in run server own = filesets_kept run.start server own

-- a server can begin a run over a store: the store is its own, for the roster of the script, in which each host is a
-- user's; and keeps what it keeps by the rules at the start, in the epoch in which the server starts
pub record CanServe (tells : Type 0) (run : Beginning) (server : ServerId) (view : View) : Type 0 where
  pub sound : IsSound run.script
  pub server_is : view.state.server ≡ server
  pub roster : view.state.roster ≡ run.script.roster
  pub users : (host : HostId) → IsHost run.script.roster host → is_some (user_of run.script.roster host) ≡ true
  pub epoch : tells → view.state.epoch ≡ first_at run server
  pub keeps : tells → (x : Tables) → x.gives ≡ [] → x.hosts.epoch ≡ view.state.epoch
      → Keeps x (filesets_first run.start server) view.state

-- what was given is a message of a host to a server
abbrev pub IsGiveBackTo : Option Given → Type 0
IsGiveBackTo given = (m : Message) × (given ≡ Some (Came m)) × (m.direction ≡ ToServer)

-- messages for the server of a machine
abbrev pub AreTheirs : Tables → List Message → Type 0
AreTheirs x ms = Each (IsForServer x.server x.roster) ms

-- messages in the order in which they came, the newest first
abbrev pub latest_first : List Message → List Message
latest_first [] = []
latest_first (m ∷ ms) = latest_first ms ++ m ∷ []

-- some messages are all among these
abbrev pub AreIn : List Message → List Message → Type 0
AreIn came ms = Each (λ (m : Message). In m came) ms

-- of these messages are all that a server has before it: each want that waits was brought by one, and each that is kept
-- is one
abbrev pub HasAllOf : {S : Type 0} → List Message → ServerNode S → Type 0
HasAllOf came n = AreBrought came n.exporter.tables.pending × AreIn came n.inbox

-- a want that waits was brought by such a message
abbrev pub IsOfWant : List Doing → Message → Type 0
IsOfWant past m = (w : Wanted) × IsQueued past w × (w.host ≡ m.host) × (body_of w.request ≡ m.body)

module _ {S : Type 0} (tells : Type 0) (view : S → View) where
  -- its store may be asked, and is that of its machine, which says only what is sound
  pub record IsReady (n : ServerNode S) : Type 0 where
    pub served : IsServed n.exporter.tables (view n.keeper.store).state
    pub sound : AreSound n.exporter.tables
    pub fit : IsFit (view n.keeper.store) n.keeper.left

  -- Its machine stands where the steps that it has made have brought it, and its store keeps what they keep, once what
  -- waits is stored: this state; its lines are those of its part, as many have gone, and it was told of what it knows.
  -- Of what was given, this may be taken still.
  pub record StandsAt (state : StoreState) (part : Part) (n : ServerNode S) (past : List Round) (made : List Step)
      (came : List Message) (lapses : ℕ) : Type 0 where
    pub node : part.node ≡ Server (server_of part.node)
    pub server : n.exporter.tables.server ≡ server_of part.node
    pub roster : n.exporter.tables.roster ≡ part.run.script.roster
    pub script : IsSound part.run.script
    pub kept : HasKeptOn tells part past made came lapses
    pub at : tells → IsAt (doings_in part.run (server_of part.node) (appended made (steps_in past)))
        (kept_in part.run (server_of part.node) (appended made (steps_in past))) n.exporter
    pub keeps : tells → Keeps n.exporter.tables
        (kept_in part.run (server_of part.node) (appended made (steps_in past))) state
    pub lines : n.lines.lines ≡ lines_of part.run.script part.node
    pub gone : n.lines.gone ≡ lines_gone (appended made (steps_in past))
    pub within : n.lines.gone ≤ length n.lines.lines
    pub told : (flag : List ℕ) → n.lines.told ≡ Some flag → WasTold past flag

  -- and nothing waits to be stored
  abbrev pub StandsSo : Part → ServerNode S → List Round → List Step → List Message → ℕ → Type 0
  StandsSo part n past made came lapses = StandsAt (view n.keeper.store).state part n past made came lapses

  -- And so it is between turns, when no Change is left that could be decided, and what was kept is to be taken still.
  pub record Stands (part : Part) (n : ServerNode S) (past : List Round) (made : List Step) : Type 0 where
    pub ready : IsReady n
    pub rested : n.exporter.rested ≡ true
    pub theirs : AreTheirs n.exporter.tables n.inbox
    pub so : StandsSo part n past made (latest_first n.inbox) 0

  -- Whatever it does, its store is for the same server, the disk's count of faults doesn't fall, and the store may be
  -- opened anew and isn't worn out, as it was before.
  pub record HasServed (old new : ServerNode S) : Type 0 where
    pub same : IsSameStore (view old.keeper.store) (view new.keeper.store)
    pub counted : (view old.keeper.store).faults ≤ (view new.keeper.store).faults
    pub mendable : (view old.keeper.store).mendable → (view new.keeper.store).mendable
    pub worn : IsWorn (view old.keeper.store) old.keeper.left → IsWorn (view new.keeper.store) new.keeper.left

  -- its disk has failed twice, and the second time in its last call
  abbrev pub HasFailed : ServerNode S → ServerNode S → Type 0
  HasFailed old new = FailedTwice (view old.keeper.store) (view new.keeper.store)

  -- Where this failed it has served till then; and where that was its store, its disk has failed twice.
  pub record HasFailedBy (fault : NodeFault) (old new : ServerNode S) : Type 0 where
    pub served : HasServed old new
    pub store : fault ≡ StoreFailed → HasFailed old new

-- A store keeps what its server keeps by the rules after its own steps, and then acts for requests that it hasn't
-- answered, or by which it begins a newer epoch: for messages that were given to it and that none of these steps took,
-- and for those of the wants that wait behind them.
pub record HasDoneMore (run : Beginning) (server : ServerId) (own : List Step) (given : List Message)
    (state : StoreState) : Type 0 where
  pub kept : StoreState
  pub keeps : KeepsOf (kept_in run server own) kept
  pub came : List Message
  pub untaken : Embeds (came ++ messages_taken own) given
  pub asked : List Message
  pub waits : (m : Message) → In m asked → IsOfWant (doings_in run server own) m
  pub come : HasCome (came ++ asked) kept state

-- so it is with a server where something failed in the newest of these rounds, as far as its store tells what it keeps
abbrev pub HasBroken : {S : Type 0} → Type 0 → (S → View) → Part → ServerNode S → List Round → Type 0
HasBroken tells view part n past = tells
    → HasDoneMore part.run (server_of part.node) (steps_in past) (messages_given past) (view n.keeper.store).state

-- the newest round gave this
abbrev pub WasGiven : List Round → Given → Type 0
WasGiven past given = (r : Round) × In r past × (r.given ≡ Some given)

-- a message that is given is for the server of a machine, and sound
abbrev pub IsFor : Tables → Given → Type 0
IsFor x given = (m : Message) → given ≡ Came m
    → IsSoundFor x.roster m × (same_node (receiver m) (Server x.server) ≡ true)

-- the next line can go, has this number, and is such a one
abbrev pub NextIs : (Line → Type 0) → LinesView → ℕ → Type 0
NextIs IsSo lines number = (line : Line) × (next_of lines ≡ Some line) × (line.number ≡ number) × IsSo line
