-- What the stores of all servers keep of a file tree.
use Rattle.std.specs.Prelude.{◌≡◌, ◌≤◌, ℕ, ◌+◌, List, length, slice_get, Some}
use Rattle.base_types.specs.declared.ids.HostId.{HostId}
use Rattle.tree_answers.specs.declared.tree.Tree.{Tree}
use Rattle.store_laws.specs.HistoryLaws.{IsBehind}
use Rattle.store_acts.specs.Moving.{taken_from}
use Rattle.store_state.specs.declared.state.StoreState.{StoreState}
use Rattle.store_laws.specs.TreeKeeping.{KeepsOf}

-- There is a store for each server, in their order, and each keeps its part of a tree. All numbers of requests in it
-- are below those of the hosts' next calls, and the ships that it has taken of a server are ships that the server gave.
pub record KeepAll (next : HostId → ℕ) (tree : Tree) (states : List StoreState) : Type 0 where
  pub count : length states ≡ length tree.roster.capacity
  pub own : (k : ℕ) (state : StoreState) → slice_get states k ≡ Some state → state.server ≡ record { 0 = k + 1 }
  pub keeps : (k : ℕ) (state : StoreState) → slice_get states k ≡ Some state → KeepsOf tree state
  pub behind : (k : ℕ) (state : StoreState) → slice_get states k ≡ Some state → IsBehind next state
  pub ships : (k j : ℕ) (state other : StoreState) → slice_get states k ≡ Some state → slice_get states j ≡ Some other
      → (taken_from state other.server).ship ≤ other.ship
