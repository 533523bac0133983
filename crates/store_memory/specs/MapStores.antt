-- What is seen of a store in memory.
use Rattle.std.specs.Prelude.{◌+◌, ⊤, false, None}
use Rattle.store_memory.specs.declared.map_store.MapStore.{MapStore}
use Rattle.store_state.specs.declared.state.StoreState.{StoreState}
use Rattle.store_memory.specs.Views.{View}

-- what it keeps
abbrev pub kept_in : MapStore → StoreState
kept_in store = store.state

-- it is always ready, and has no disk that fails
abbrev pub map_view : MapStore → View
map_view store = record {
  state = kept_in store;
  ready = ⊤;
  mendable = ⊤;
  wear = store.state.epoch + store.state.ship;
  faults = 0;
  last_failed = false;
  moment = 0;
  left_since = λ t c. ⊥;
  found_on = λ c. None;
}
