-- The nodes of a script, over the stores of its servers.
use Rattle.std.specs.Prelude.{List, Option, [], length, map, slice_index_or, ⊤, ℕ, ◌+◌, ◌++◌, ◌<◌, ◌∷◌, ◌≡◌}
use Rattle.base_types.specs.declared.ids.Node.{Node}
use Rattle.store_memory.specs.Views.{View}
use Rattle.hub_board.specs.Hubs.{nodes_of}
use Rattle.hub_node.specs.Either.{next_any, stands_any}
use Rattle.hub_node.specs.Lines.{next_number}
use Rattle.hub_node.specs.Nodes.{Beginning, part_of}
use Rattle.hub_node.specs.declared.either.AnyNode.{AnyNode}
use Rattle.hub_node.specs.declared.either.AnyNode.TheVariants.{Host, Server}
use Rattle.host_node.specs.Standing.{Stands as HostStands}
use Rattle.host_node.specs.declared.host.HostNode.{HostNode}
use Rattle.server_node.specs.Standing.{CanServe, Stands as ServerStands}
use Rattle.server_node.specs.declared.server.ServerNode.{ServerNode}

-- a node over a store of this type
abbrev pub NodeOf : Type 0 → Type 0
NodeOf S = AnyNode HostNode (ServerNode S)

-- the number of a node's next line, where one is left
abbrev pub next_line : {S : Type 0} → NodeOf S → Option ℕ
next_line {S = S} = next_any (λ (n : HostNode). next_number n.lines) (λ (n : ServerNode S). next_number n.lines)

-- the store of a node, where it is a server's
abbrev pub store_under : {S : Type 0} → NodeOf S → List S
store_under (Host n) = []
store_under (Server n) = n.keeper.store ∷ []

-- those of nodes, in their order
abbrev pub stores_in : {S : Type 0} → List (NodeOf S) → List S
stores_in [] = []
stores_in (n ∷ nodes) = store_under n ++ stores_in nodes

-- so many hosts, and behind them the servers of these stores
pub record AreOver {S : Type 0} (nodes : List (NodeOf S)) (count : ℕ) (stores : List S) : Type 0 where
  pub hosts : List HostNode
  pub servers : List (ServerNode S)
  pub are : nodes ≡ map Host hosts ++ map Server servers
  pub counted : length hosts ≡ count
  pub over : map (λ n. n.keeper.store) servers ≡ stores

-- each can begin a run over its store, where the first is that of the server of this number
abbrev pub CanAll : {S : Type 0} → Type 0 → (S → View) → Beginning → ℕ → List S → Type 0
CanAll tells view run number [] = ⊤
CanAll tells view run number (store ∷ stores) =
    CanServe tells run (record { 0 = number }) (view store) × CanAll tells view run (number + 1) stores

-- these are the first nodes of a run, each as it is before its first turn
abbrev pub AreFirst : {S : Type 0} → Type 0 → (S → View) → Beginning → List (NodeOf S) → Type 0
AreFirst {S = S} tells view run nodes =
    (i : ℕ) (n : NodeOf S) (node : Node) → i < length nodes
    → stands_any HostStands (ServerStands tells view) (part_of run (slice_index_or (nodes_of run.script) i node))
    (slice_index_or nodes i n) [] []
