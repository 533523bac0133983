-- What a store keeps, and where filesets are found in it.
use Rattle.std.specs.Prelude.{ℕ, ◌+◌, ◌==◌, Bool, true, false, ◌&&◌, if◌then◌else◌}
use Rattle.std.specs.Prelude.{List, length, map, replicate, slice_get, Option, Some, None, unwrap_or}
use Rattle.std.specs.List.{position}
use Rattle.std.specs.Option.{option_map, option_and_then}
use Rattle.base_types.specs.Lists.{changed_at}
use Rattle.base_types.specs.Name.{same_name}
use Rattle.base_types.specs.declared.ids.FilesetId.{FilesetId}
use Rattle.base_types.specs.declared.ids.HostId.{HostId}
use Rattle.base_types.specs.declared.ids.ServerId.{ServerId}
use Rattle.base_types.specs.declared.limits.TheConstants.{SERVERS_MAX, HOSTS_MAX, FILESETS_MAX}
use Rattle.tree_calls.specs.declared.roster.Roster.{Roster}
use Rattle.tree_calls.specs.declared.ship.Record.{Record}
use Rattle.store_state.specs.declared.state.HostState.TheVariants.{Unknown}
use Rattle.store_state.specs.declared.state.Stay.{Stay}
use Rattle.store_state.specs.declared.state.Stay.TheVariants.{Writable, Clone, Leaving, Arriving, Gone}
use Rattle.store_state.specs.declared.state.Holding.{Holding}
use Rattle.store_state.specs.declared.state.StoreState.{StoreState}
use Rattle.store_state.specs.declared.state.TakenShip.{TakenShip}

-- where nothing was requested
abbrev pub no_record : Record
no_record = record { change = 0; give = 0; code = 0; right = 0 }

-- no requests of any host
abbrev pub no_records : List Record
no_records = replicate (HOSTS_MAX + 1) no_record

-- the requests of hosts forgotten
abbrev pub forgotten : List Record → List Record
forgotten records = map (λ kept. no_record) records

-- where no ship was taken
abbrev pub no_ship : TakenShip
no_ship = record { ship = 0; code = 0 }

-- the store of a server of this capacity before its first act
abbrev pub new_state : ServerId → ℕ → Roster → StoreState
new_state server capacity roster = record {
  server = server;
  roster = roster;
  capacity = capacity;
  next = 1;
  slots = replicate FILESETS_MAX None;
  records = no_records;
  hosts = replicate (HOSTS_MAX + 1) Unknown;
  epoch = 0;
  ship = 0;
  taken = replicate SERVERS_MAX no_ship;
}

-- whether a fileset is here: writable or a clone
abbrev pub is_here : Stay → Bool
is_here Writable = true
is_here Clone = true
is_here (Leaving to ship) = false
is_here (Arriving from ship parts) = false
is_here (Gone to) = false

-- whether it may be changed
abbrev pub is_writable : Stay → Bool
is_writable Writable = true
is_writable Clone = false
is_writable (Leaving to ship) = false
is_writable (Arriving from ship parts) = false
is_writable (Gone to) = false

-- whether it is arriving
abbrev pub is_arriving : Stay → Bool
is_arriving Writable = false
is_arriving Clone = false
is_arriving (Leaving to ship) = false
is_arriving (Arriving from ship parts) = true
is_arriving (Gone to) = false

-- whether it has left
abbrev pub is_gone : Stay → Bool
is_gone Writable = false
is_gone Clone = false
is_gone (Leaving to ship) = false
is_gone (Arriving from ship parts) = false
is_gone (Gone to) = true

-- whether it is leaving
abbrev pub is_leaving : Stay → Bool
is_leaving Writable = false
is_leaving Clone = false
is_leaving (Leaving to ship) = true
is_leaving (Arriving from ship parts) = false
is_leaving (Gone to) = false

-- whether a slot is used, and its holding passes a test
abbrev pub is_used_so : (Holding → Bool) → Option Holding → Bool
is_used_so test None = false
is_used_so test (Some holding) = test holding

-- whether this is the fileset of an id
abbrev pub is_of : FilesetId → Holding → Bool
is_of id holding = holding.fileset.id.0 == id.0

-- whether it is here under a name
abbrev pub is_here_as : List ℕ → Holding → Bool
is_here_as name holding = is_here holding.stay && same_name holding.fileset.name name

-- whether it has left under a name
abbrev pub is_gone_as : List ℕ → Holding → Bool
is_gone_as name holding = is_gone holding.stay && same_name holding.fileset.name name

-- the first slot whose holding passes a test, or the end of the table
abbrev pub slot_so : (Holding → Bool) → List (Option Holding) → ℕ
slot_so test slots = unwrap_or (position (is_used_so test) slots) (length slots)

-- what is held in a slot
abbrev pub held_at : List (Option Holding) → ℕ → Option Holding
held_at slots at = option_and_then (λ slot. slot) (slice_get slots at)

-- the first holding that passes a test
abbrev pub held_so : (Holding → Bool) → List (Option Holding) → Option Holding
held_so test slots = held_at slots (slot_so test slots)

-- whether an id stands for the server itself, under which requests on filesets themselves are numbered
abbrev pub is_server : FilesetId → Bool
is_server id = id.0 == 0

-- the records of a fileset, unless it has left or was never here
abbrev pub unless_gone : Holding → Option (List Record)
unless_gone holding = if is_gone holding.stay then None else Some holding.records

-- what is kept of requests under an id
abbrev pub records_of : StoreState → FilesetId → Option (List Record)
records_of state id =
    if is_server id then Some state.records else option_and_then unless_gone (held_so (is_of id) state.slots)

-- what is kept of a host's
abbrev pub record_of : List Record → HostId → Record
record_of records host = unwrap_or (slice_get records host.0) no_record

-- a store with the holding in a slot changed
abbrev pub with_held : StoreState → ℕ → (Holding → Holding) → StoreState
with_held state at change = record state { slots = changed_at state.slots at (option_map change) }

-- a holding with what is kept of a host's requests changed
abbrev pub held_noted : HostId → (Record → Record) → Holding → Holding
held_noted host change holding = record holding { records = changed_at holding.records host.0 change }

-- a store with what is kept of a host's requests under an id changed
abbrev pub with_record : StoreState → FilesetId → HostId → (Record → Record) → StoreState
with_record state id host change =
    if is_server id then record state { records = changed_at state.records host.0 change }
    else with_held state (slot_so (is_of id) state.slots) (held_noted host change)
