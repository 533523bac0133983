-- A server's tables beside its store, and what may be given to them.
use Rattle.std.specs.Prelude.{◌≡◌, List, [], ◌∷◌, length}
use Rattle.tree_calls.specs.declared.roster.HostLine.{HostLine}
use Rattle.tree_calls.specs.declared.roster.Roster.{Roster}
use Rattle.store_memory.specs.MapStores.{kept_in, map_view}
use Rattle.store_memory.specs.declared.map_store.MapStore.{MapStore}
use Rattle.server_looks.specs.Keepers.{IsFit}
use Rattle.server_looks.specs.declared.keeper.Keeper.{Keeper}
use Rattle.server_tables.specs.declared.tables.Tables.{Tables}
use Rattle.server_exporter.specs.Messages.{IsStoreOf}
use Rattle.server_exporter.specs.Gathering.{AreGives}
use Rattle.server_exporter.specs.Serving.{IsServed}
use Rattle.server_exporter_tests.specs.declared.machine.Machine.{Machine}

-- host 1 acts for the first user, and host 2 for the second
abbrev pub two_hosts : List HostLine
two_hosts = record { user = 0; limit = 64 } ∷ record { user = 1; limit = 64 } ∷ []

pub record HasTwo (roster : Roster) : Type 0 where
  pub hosts : roster.hosts ≡ two_hosts
  pub users : length roster.users ≡ 2

-- the store is that of the server of these tables, and may be asked and written
pub record IsKept (tables : Tables) (keeper : Keeper MapStore) : Type 0 where
  pub of : IsStoreOf tables (kept_in keeper.store)
  pub fit : IsFit (map_view keeper.store) keeper.left

-- a machine's tables are those of its store's server, which may be asked and written
pub record Works (machine : Machine) : Type 0 where
  pub served : IsServed machine.exporter.tables (map_view machine.keeper.store).state
  pub gives : AreGives (map_view machine.keeper.store).state machine.waiting
  pub fit : IsFit (map_view machine.keeper.store) machine.keeper.left
