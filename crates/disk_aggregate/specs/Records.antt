-- The record of a store on a disk.
use Rattle.std.specs.Prelude.{◌≡◌, ◌⊎◌, ℕ, List, Some}
use Rattle.base_types.specs.declared.ids.ServerId.{ServerId}
use Rattle.tree_calls.specs.declared.roster.Roster.{Roster}
use Rattle.store_state.specs.declared.state.StoreState.{StoreState}
use Rattle.disk_layout.specs.Half.{HasNoLog}
use Rattle.disk_records.specs.Record.{record_in}

-- the bytes of a disk have this record of their server's store
abbrev pub HasRecord : StoreState → List ℕ → Type 0
HasRecord state bytes = record_in state.roster state.server bytes ≡ Some state

-- and the same one as others, or none as they
abbrev pub HasSameRecord : Roster → ServerId → List ℕ → List ℕ → Type 0
HasSameRecord roster server old bytes = record_in roster server bytes ≡ record_in roster server old

-- what a crash in a format leaves: no log, which is refused at place 0, or the new store
abbrev pub IsLeftOfFormat : StoreState → List ℕ → Type 0
IsLeftOfFormat state c = HasNoLog 0 c ⊎ HasRecord state c
