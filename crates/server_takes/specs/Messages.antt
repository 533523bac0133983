-- What any message that comes makes of a server's tables, its step and its store.
use Rattle.std.specs.Prelude.{◌≡◌, ◌==◌, ◌⊎◌, ◌++◌, ◌∷◌, not, Bool, true, false, ◌&&◌, if◌then◌else◌, List, [], Option}
use Rattle.std.specs.Prelude.{None}
use Rattle.base_types.specs.declared.ids.HostId.{HostId}
use Rattle.base_types.specs.declared.ids.ServerId.{ServerId}
use Rattle.base_types.specs.declared.user.User.{User}
use Rattle.tree_calls.specs.declared.part.Status.{Status}
use Rattle.tree_calls.specs.declared.roster.Roster.{Roster}
use Rattle.token_types.specs.declared.token.Need.{Need}
use Rattle.message_types.specs.Soundness.{IsSound}
use Rattle.message_types.specs.declared.giving.Give.{Give}
use Rattle.message_types.specs.declared.message.Body.{Body}
use Rattle.message_types.specs.declared.message.Body.TheVariants.{Bye, Change, Down, GiveBack, Hello}
use Rattle.message_types.specs.declared.message.Direction.TheVariants.{ToServer}
use Rattle.message_types.specs.declared.message.Message.{Message}
use Rattle.store_acts.specs.declared.act.Act.{Act}
use Rattle.store_memory.specs.Reading.{status_told}
use Rattle.store_state.specs.declared.state.HostState.TheVariants.{IsDown}
use Rattle.store_state.specs.declared.state.StoreState.{StoreState}
use Rattle.server_looks.specs.Asking.{change_needs}
use Rattle.server_looks.specs.Acts.{IsRepeatable, giving, host_noted}
use Rattle.server_tables.specs.Listing.{has_host, is_live}
use Rattle.server_tables.specs.declared.tables.Tables.{Tables}
use Rattle.server_takes.specs.Taking.{IsTaken, bye_state, give_state, hello_state}
use Rattle.server_takes.specs.declared.draft.Draft.{Draft}

-- a sound message that comes to a server
pub record IsFor (server : ServerId) (roster : Roster) (m : Message) : Type 0 where
  pub sound : IsSound roster m
  pub own : m.server ≡ server
  pub way : m.direction ≡ ToServer

-- the store is that of the server of these tables, for the same roster
pub record IsStoreOf (x : Tables) (state : StoreState) : Type 0 where
  pub server : state.server ≡ x.server
  pub roster : state.roster ≡ x.roster

-- what a Change needs by the store
abbrev pub needs_by : StoreState → Message → User → Body → List Need
needs_by state m user (Change change) = change_needs state m.host user change
needs_by state m user _ = []

-- the status of a give-back's file by the store
abbrev pub told_by : StoreState → Body → Option Status
told_by state (GiveBack give) = status_told state give.fid
told_by state _ = None

-- what a message of the user's host makes of the tables and of a step in the making
abbrev pub IsTakenOf : Tables → Draft → Message → User → StoreState → Tables → Draft → Type 0
IsTakenOf x d m user state y e = IsTaken x d m (needs_by state m user m.body) (told_by state m.body) y e

-- it is so where the store tells this or that
pub record IsHeardBy (R : List Need → Option Status → Type 0) : Type 0 where
  pub needs : List Need
  pub told : Option Status
  pub taken : R needs told

-- what a message makes of the tables and of a step in the making, whatever the store tells
abbrev pub IsHeard : Tables → Draft → Message → Tables → Draft → Type 0
IsHeard x d m y e = IsHeardBy (λ needs told. IsTaken x d m needs told y e)

-- a give-back may be given to the store
abbrev pub IsStored : Message → StoreState → Body → Type 0
IsStored m state (GiveBack give) = IsRepeatable state (giving m.host give)
IsStored m state _ = Unit {0}

-- a message of this epoch, from a live host
abbrev pub is_current : Tables → Message → Bool
is_current x m = is_live x.hosts m.host && ((m.epoch == x.hosts.epoch) && (m.moves == 0))

-- and that hasn't stopped
abbrev pub is_request : Tables → Message → Bool
is_request x m = not (has_host x.hosts.down m.host) && is_current x m

-- at most one give-back more waits to be stored
abbrev pub IsOneMore : HostId → Give → List Act → List Act → Type 0
IsOneMore host give old new = (new ≡ old) ⊎ (new ≡ old ++ giving host give ∷ [])

-- it asks the store something
abbrev pub asks_store : Body → Bool
asks_store (Change change) = true
asks_store (GiveBack give) = true
asks_store _ = false

abbrev pub request_state : Tables → Message → StoreState → Body → StoreState
request_state x m state (GiveBack give) = give_state x m.host give state
request_state x m state _ = state

abbrev pub other_state : Tables → Message → StoreState → Body → StoreState
other_state x m state body = if is_current x m then request_state x m state body else state

abbrev pub body_state : Tables → Message → StoreState → Body → StoreState
body_state x m state Hello = hello_state x m.host state
body_state x m state Bye = bye_state x m.host m.epoch state
body_state x m state Down = host_noted state m.host IsDown
body_state x m state body = other_state x m state body

-- what it makes of the store
abbrev pub state_taken : Tables → Message → StoreState → StoreState
state_taken x m state = if has_host x.hosts.down m.host then state else body_state x m state m.body
