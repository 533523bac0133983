-- In which epochs servers start.
use Rattle.std.specs.Prelude.{List, Some, map, slice_get, ℕ, ◌+◌, ◌≡◌}
use Rattle.base_types.specs.declared.ids.ServerId.{ServerId}
use Rattle.store_acts.specs.Acts.{act_done}
use Rattle.store_acts.specs.declared.act.Act.TheVariants.{Boot}
use Rattle.store_state.specs.declared.state.StoreState.{StoreState}
use Rattle.run_rules.specs.Runs.{firsts_of}
use Rattle.run_rules.specs.declared.journal.Journal.{Journal}

-- the epoch of a store once a run has begun in it
abbrev pub epoch_of : StoreState → ℕ
epoch_of state = (act_done state Boot).state.epoch

-- The epochs of a journal are those of the stores of its servers, from the first server on, once the run has begun in
-- them.
abbrev pub StartsWith : Journal → List StoreState → Type 0
StartsWith journal states = journal.epochs ≡ map epoch_of states

-- so each server starts in the epoch of its store, and that is a new one
pub record ServersStartSo : Type 0 where
  pub epoch : (journal : Journal) (states : List StoreState) (server : ServerId) (i : ℕ) (state : StoreState)
      → StartsWith journal states → slice_get states i ≡ Some state → server.0 ≡ i + 1
      → firsts_of journal server ≡ epoch_of state
  pub new : (state : StoreState) → epoch_of state ≡ state.epoch + 1
