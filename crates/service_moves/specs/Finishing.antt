-- How moves that an earlier run left unfinished are finished.
use Rattle.std.specs.Prelude.{◌≡◌, ℕ, List, length, slice_get, Some, None}
use Rattle.base_types.specs.declared.ids.ServerId.{ServerId}
use Rattle.tree_calls.specs.declared.call.Call.TheVariants.{MoveFileset}
use Rattle.tree_calls.specs.declared.roster.Roster.{Roster}
use Rattle.tree_calls.specs.declared.ship.Mover.{Mover}
use Rattle.store_memory.specs.Views.{View}
use Rattle.tree_answers.specs.declared.tree.Tree.{Tree}
use Rattle.service_starts.specs.FinishLaws.{ship_told}
use Rattle.service_starts.specs.UnderWay.{freed, KeepUnderWay}
use Rattle.message_types.specs.Soundness.{IsServer}
use Rattle.store_state.specs.declared.state.StoreState.{StoreState}
use Rattle.service_moves.specs.Stores.{AreStores}
use Rattle.service_moves.specs.declared.ships.Ship.{Ship}

-- these are the stores of a roster that has a server
pub record HaveServer {S : Type 0} (view : S → View) (worn : ℕ) (stores : List S) (from : ServerId) : Type 0 where
  pub roster : Roster
  pub count : length stores ≡ length roster.capacity
  pub are : AreStores view roster worn 1 stores
  pub is_from : IsServer roster from

-- the mover under which a ship goes once more: nothing is kept of its call
abbrev pub mover_again : Ship → Mover
mover_again ship = record {
  host = record { 0 = 0 };
  number = 0;
  k = 0;
  call = MoveFileset ship.from ship.name ship.to;
}

-- What is leaving one store has left: the stores keep a tree, from which the one that they kept differs in rooms that
-- are kept alone; nothing is leaving that store, nor any from which nothing was.
pub record HasFinished (tree : Tree) (place : ℕ) (old new : List StoreState) : Type 0 where
  pub after : Tree
  pub keep : KeepUnderWay after new
  pub same : freed after ≡ freed tree
  pub left : (state : StoreState) → slice_get new place ≡ Some state → ship_told state ≡ None
  pub still : (k : ℕ) (before now : StoreState) → slice_get old k ≡ Some before → slice_get new k ≡ Some now
      → ship_told before ≡ None → ship_told now ≡ None
