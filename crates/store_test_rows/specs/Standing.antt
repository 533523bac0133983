-- A store that is tried.
use Rattle.std.specs.Prelude.{◌≡◌, ◌≤◌, ◌*◌, ℕ}
use Rattle.base_types.specs.declared.ids.ServerId.{ServerId}
use Rattle.tree_calls.specs.declared.roster.Roster.{Roster}
use Rattle.store_memory.specs.Views.{View, IsSameStore}
use Rattle.store_test_rows.specs.declared.tried.Tried.{Tried}

-- it may be asked, and opened anew
pub record IsUsable (view : View) : Type 0 where
  pub ready : view.ready
  pub mendable : view.mendable

-- after an answer it is the same store, no more worn, and may be asked again
pub record Stays (old new : View) : Type 0 where
  pub same : IsSameStore old new
  pub wear : new.wear ≡ old.wear
  pub usable : IsUsable new

-- the store of a server of a roster, which may be opened anew, and is worn by so many batches at most
pub record IsFor (view : View) (server : ServerId) (roster : Roster) (batches : ℕ) : Type 0 where
  pub of_server : view.state.server ≡ server
  pub of_roster : view.state.roster ≡ roster
  pub mendable : view.mendable
  pub wear : view.wear ≤ 9 * batches

abbrev pub IsMendable : {S : Type 0} → (S → View) → Roster → Tried S → Type 0
IsMendable view roster tried = IsFor (view tried.store) tried.server roster tried.batches

-- and one that may be asked
pub record Stands {S : Type 0} (view : S → View) (roster : Roster) (tried : Tried S) : Type 0 where
  pub own : IsMendable view roster tried
  pub ready : (view tried.store).ready
