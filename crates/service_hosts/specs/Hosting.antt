-- What comes of a script that hosts and servers run over the stores of servers.
use Rattle.std.specs.Prelude.{Err, List, Result, Some, [], length, map, slice_get, slice_index_or, ℕ, ◌+◌, ◌-◌, ◌<◌}
use Rattle.std.specs.Prelude.{◌∷◌, ◌≡◌, ◌⊎◌}
use Rattle.tree_answers.specs.declared.tree.Tree.{Tree}
use Rattle.script_lines.specs.declared.script.Script.{Script}
use Rattle.store_laws.specs.TreeKeeping.{KeepsOf}
use Rattle.store_memory.specs.Views.{View}
use Rattle.hub_board.specs.Hubs.{nodes_of}
use Rattle.hub_drive.specs.Driving.{HaveRested, IsUndoneAt, beginning}
use Rattle.hub_drive.specs.declared.driver.DriveFault.{DriveFault}
use Rattle.hub_drive.specs.declared.driver.DriveFault.TheVariants as drive
use Rattle.hub_drive.specs.declared.driver.Waiting.{Waiting}
use Rattle.hub_node.specs.Either.{stands_any}
use Rattle.host_node.specs.Standing.{Stands as HostStands}
use Rattle.server_node.specs.Standing.{Stands as ServerStands}
use Rattle.base_types.specs.declared.ids.Node.TheVariants.{Server}
use Rattle.base_types.specs.declared.ids.ServerId.{ServerId}
use Rattle.hub_node.specs.Nodes.{OwnMeets}
use Rattle.run_rules.specs.Kept.{filesets_kept}
use Rattle.message_types.specs.declared.message.Message.{Message}
use Rattle.run_rules.specs.Past.{Always, In, appended}
use Rattle.run_rules.specs.Plans.{IsPlanned, sent_in}
use Rattle.run_rules.specs.Runs.{IsDutiful, IsRun, past_of}
use Rattle.run_rules.specs.Steps.{steps_of_server}
use Rattle.run_rules.specs.declared.journal.Journal.{Journal}
use Rattle.run_rules.specs.declared.step.Step.{Step}
use Rattle.server_node.specs.Standing.{HasDoneMore}
use Rattle.service_moves.specs.Stopping.{HasFailed}
use Rattle.store_state.specs.declared.state.StoreState.{StoreState}
use Rattle.run_promises.specs.Promises.{HasRun, last_tree}
use Rattle.service_hosts.specs.Nodes.{AreOver, NodeOf, next_line}
use Rattle.service_hosts.specs.declared.running.HostsStopped.{HostsStopped}
use Rattle.service_hosts.specs.declared.running.HostsStopped.TheVariants.{Failed, Memory, Stuck}

-- the epochs of stores, in their order
abbrev pub epochs_of : {S : Type 0} → (S → View) → List S → List ℕ
epochs_of view stores = map (λ store. (view store).state.epoch) stores

-- what a fault of the driver means, where so many hosts are before the first server
abbrev pub stopped_by : ℕ → DriveFault → HostsStopped
stopped_by hosts (drive.Store node) = Failed (record { 0 = (node - hosts) + 1 })
stopped_by hosts (drive.Stuck waiting) = Stuck waiting
stopped_by hosts drive.Memory = Memory

-- each store keeps its server's part of a tree, and may be asked
pub record AreKeeping {S : Type 0} (tells : Type 0) (view : S → View) (tree : Tree) (stores : List S) : Type 0 where
  pub ready : (k : ℕ) (store : S) → slice_get stores k ≡ Some store → (view store).ready
  pub keeps : tells → (k : ℕ) (store : S) → slice_get stores k ≡ Some store → KeepsOf tree (view store).state

-- Hosts and servers ran a script from a tree on, to its end: the journal starts from the tree, in the epochs of the
-- stores, and keeps to the plan of the script; where the stores tell what they keep it is a run of the script, and each
-- keeps its server's part of the tree that it leaves.
pub record HasHosted {S : Type 0} (tells : Type 0) (view : S → View) (script : Script) (start : Tree)
    (old new : List S) (journal : Journal) : Type 0 where
  pub starts : journal.start ≡ start ∷ []
  pub epochs : tells → journal.epochs ≡ epochs_of view old
  pub planned : IsPlanned script journal
  pub run : tells → HasRun script journal
  pub kept : AreKeeping tells view (last_tree start journal) new

-- Hosts and servers over these stores, in a run from a tree, have come to rest: in its newest round each handed in
-- nothing and was given nothing, and it has made nothing. One of them is named, with its next line: it isn't done by
-- its own steps, a server as far as the stores tell what they keep.
pub record IsStuck {S : Type 0} (tells : Type 0) (view : S → View) (script : Script) (start : Tree) (stores : List S)
    (waiting : Waiting) : Type 0 where
  pub node : waiting.node < length (nodes_of script)
  pub epochs : List ℕ
  pub nodes : List (NodeOf S)
  pub over : AreOver nodes (length script.roster.hosts + 1) stores
  pub rested : HaveRested (stands_any HostStands (ServerStands tells view)) (beginning script start epochs) nodes
  pub undone : IsUndoneAt (Unit {0} × tells) (stands_any HostStands (ServerStands tells view))
      (beginning script start epochs) nodes waiting.node
  pub line : (d : NodeOf S) → waiting.line ≡ next_line (slice_index_or nodes waiting.node d)

-- why it came to no end: the store of a server failed twice; all have come to rest, and one isn't done; or memory ran
-- out
abbrev pub IsStopped : {S : Type 0} → Type 0 → (S → View) → Script → Tree → List S → List S → HostsStopped → Type 0
IsStopped tells view script start old new (Failed server) = HasFailed view old new server.0
IsStopped tells view script start old new (Stuck waiting) = IsStuck tells view script start new waiting
IsStopped tells view script start old new Memory = Unit {0}

-- a server's own steps in a journal, the newest first
abbrev pub own_in : Journal → ServerId → List Step
own_in journal server = steps_of_server server (past_of journal)

-- what a server keeps by the rules after all its steps in a journal that starts from this tree
abbrev pub kept_so_far : Tree → Journal → ServerId → Tree
kept_so_far start journal server = filesets_kept start server (own_in journal server)

-- each store keeps what its server keeps by the rules after all its steps in a journal, and may be asked
pub record KeepSoFar {S : Type 0} (tells : Type 0) (view : S → View) (start : Tree) (journal : Journal)
    (stores : List S) : Type 0 where
  pub ready : (k : ℕ) (store : S) → slice_get stores k ≡ Some store → (view store).ready
  pub keeps : tells → (k : ℕ) (store : S) → slice_get stores k ≡ Some store
      → KeepsOf (kept_so_far start journal (record { 0 = k + 1 })) (view store).state

-- A store keeps what its server keeps by the rules after all its steps in a journal from this tree, and some more
-- behind them, or none, that it has made by its rules and that nobody has heard of.
pub record KeepsMore (script : Script) (start : Tree) (journal : Journal) (server : ServerId) (state : StoreState)
    : Type 0 where
  pub more : List Step
  pub rules : Always (OwnMeets (beginning script start journal.epochs) (Server server))
      (appended more (own_in journal server))
  pub keeps : KeepsOf (filesets_kept start server (appended more (own_in journal server))) state

-- A store keeps what its server keeps by the rules after all its steps in a journal from this tree, and then acts for
-- requests that it hasn't answered there, or by which it begins a newer epoch: for messages that came to it and that
-- none of these steps took, each of which was sent in the journal, and for those of the wants that wait behind them. In
-- what order these acts are, how often each was done, and why one refuses a call, isn't said.
pub record HasComeFrom (script : Script) (start : Tree) (journal : Journal) (server : ServerId) (state : StoreState)
    : Type 0 where
  pub given : List Message
  pub sent : (m : Message) → In m given → In m (sent_in (past_of journal))
  pub more : HasDoneMore (beginning script start journal.epochs) server (own_in journal server) given state

-- Each change that a server acknowledged in a journal from this tree is in its store: that keeps the server's steps in
-- the journal, and perhaps some more, and may be asked; or, as where the server failed while it made more, behind those
-- acts for requests that it hasn't answered, or by which it begins a newer epoch.
abbrev pub HasKept : Script → Tree → Journal → ServerId → View → Type 0
HasKept script start journal server view =
    (KeepsMore script start journal server view.state × view.ready)
    ⊎ HasComeFrom script start journal server view.state

-- Hosts and servers ran a script from a tree on, so far: the journal starts from the tree, in the epochs of the stores,
-- and keeps to the plan of the script; where the stores tell what they keep it is a run of the script, in which what is
-- due is done. Each change that was acknowledged is in its store. Where all came to rest each store keeps its server's
-- steps in the journal, and no more.
pub record HasHostedSoFar {S : Type 0} (tells : Type 0) (view : S → View) (script : Script) (start : Tree)
    (old new : List S) (result : Result Journal HostsStopped) (journal : Journal) : Type 0 where
  pub starts : journal.start ≡ start ∷ []
  pub epochs : tells → journal.epochs ≡ epochs_of view old
  pub planned : IsPlanned script journal
  pub run : tells → IsRun script journal
  pub dutiful : tells → IsDutiful script journal
  pub kept : tells → (k : ℕ) (store : S) → slice_get new k ≡ Some store
      → HasKept script start journal (record { 0 = k + 1 }) (view store)
  pub rested : (waiting : Waiting) → result ≡ Err (Stuck waiting) → KeepSoFar tells view start journal new
