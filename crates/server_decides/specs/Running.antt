-- A step in the making.
use Rattle.store_state.specs.declared.state.StoreState.{StoreState}
use Rattle.server_tables.specs.declared.tables.Tables.{Tables}
use Rattle.server_says.specs.Draft.{Draft}

-- a server's tables, its step in the making, and what its store keeps
pub record Making : Type 0 where
  pub tables : Tables
  pub draft : Draft
  pub state : StoreState

abbrev pub making : Tables → Draft → StoreState → Making
making x d state = record { tables = x; draft = d; state = state }
