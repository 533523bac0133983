-- The capacity of a store.
use Rattle.std.specs.Prelude.{ℕ, ◌-◌, slice_get, unwrap_or}
use Rattle.base_types.specs.declared.ids.ServerId.{ServerId}
use Rattle.tree_calls.specs.declared.roster.Roster.{Roster}

-- the capacity of a server; servers are counted from 1
abbrev pub capacity_of : Roster → ServerId → ℕ
capacity_of roster server = unwrap_or (slice_get roster.capacity (server.0 - 1)) 0
