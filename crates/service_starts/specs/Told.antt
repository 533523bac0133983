-- What the stores of servers tell when a run begins.
use Rattle.std.specs.Prelude.{
  ℕ,
  ◌+◌,
  ◌-◌,
  ◌==◌,
  nat_lt,
  Bool,
  true,
  false,
  ◌&&◌,
  not,
  if◌then◌else◌,
  List,
  [],
  ◌∷◌,
  ◌++◌,
  map,
  slice_get,
  Option,
  None,
}
use Rattle.std.specs.List.{list_any}
use Rattle.std.specs.Option.{option_map_or}
use Rattle.base_types.specs.declared.ids.ServerId.{ServerId}
use Rattle.store_memory.specs.declared.told.Slot.{Slot}
use Rattle.tree_answers.specs.declared.tree.ServerRoom.{ServerRoom}
use Rattle.store_state.specs.declared.state.Stay.{Stay}
use Rattle.store_state.specs.declared.state.Stay.TheVariants.{Writable, Clone, Leaving, Arriving, Gone}
use Rattle.service_starts.specs.declared.told.Told.{Told}

-- what is told of a server; servers are counted from 1
abbrev pub told_of : List Told → ServerId → Option Told
told_of all server = if server.0 == 0 then None else slice_get all (server.0 - 1)

-- the used slots of a server's store; none where there is no such server
abbrev pub slots_of : List Told → ServerId → List Slot
slots_of all server = option_map_or (λ told. told.slots) (told_of all server) []

-- a slot of a server
pub record Placed : Type 0 where
  pub server : ServerId
  pub slot : Slot

-- the slots of a server
abbrev pub placed_at : ℕ → List Slot → List Placed
placed_at server slots = map (λ slot. record { server = record { 0 = server }; slot = slot }) slots

-- the slots of servers, of which the first has this number
abbrev pub placed_from : ℕ → List Told → List Placed
placed_from server [] = []
placed_from server (told ∷ rest) = placed_at server told.slots ++ placed_from (server + 1) rest

-- all slots, in the order of servers, and of each server in that of its table
abbrev pub placed : List Told → List Placed
placed all = placed_from 1 all

-- what the servers have for further filesets
abbrev pub rooms_of : List Told → List ServerRoom
rooms_of all = map (λ told. record { capacity = told.kept.capacity; next = told.kept.next }) all

-- whether another slot is of the same fileset
abbrev pub is_same : Slot → Slot → Bool
is_same slot other = other.fileset.0 == slot.fileset.0

-- whether it is, after further moves
abbrev pub is_later : Slot → Slot → Bool
is_later slot other = is_same slot other && nat_lt slot.moves other.moves

-- whether a fileset has come to a server, from the slot that it was to leave for it: a slot there tells of more moves
abbrev pub has_come : List Told → Slot → ServerId → Bool
has_come all slot to = list_any (is_later slot) (slots_of all to)

-- Whether a fileset is in a slot once the unfinished moves are settled. One that is leaving stays where it hasn't come
-- to the other server; one that is arriving is there already.
abbrev pub stands_as : List Told → Slot → Stay → Bool
stands_as all slot Writable = true
stands_as all slot Clone = true
stands_as all slot (Leaving to ship) = not (has_come all slot to)
stands_as all slot (Arriving from ship parts) = true
stands_as all slot (Gone to) = false

abbrev pub stands : List Told → Slot → Bool
stands all slot = stands_as all slot slot.stay
