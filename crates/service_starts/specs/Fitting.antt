-- When the disks of servers fit one another.
use Rattle.std.specs.Prelude.{
  ◌≡◌,
  ℕ,
  ◌+◌,
  ◌-◌,
  ◌==◌,
  Bool,
  true,
  false,
  ◌&&◌,
  ◌||◌,
  not,
  List,
  filter,
  map,
  take,
  Option,
  Some,
}
use Rattle.std.specs.List.{find, list_any, list_all}
use Rattle.std.specs.Option.{option_map_or}
use Rattle.base_types.specs.Name.{same_name}
use Rattle.base_types.specs.declared.ids.ServerId.{ServerId}
use Rattle.store_memory.specs.declared.told.Slot.{Slot}
use Rattle.tree_answers.specs.WellFormed.{is_given}
use Rattle.store_acts.specs.Moving.{is_unsettled}
use Rattle.store_state.specs.declared.state.Stay.{Stay}
use Rattle.store_state.specs.declared.state.Stay.TheVariants.{Writable, Clone, Leaving, Arriving, Gone}
use Rattle.service_starts.specs.declared.told.Told.{Told}
use Rattle.service_starts.specs.declared.fitting.FitRefused.{FitRefused}
use Rattle.service_starts.specs.declared.fitting.FitRefused.TheVariants.{Unfit, Memory}
use Rattle.service_starts.specs.declared.fitting.Settling.{Settling}
use Rattle.service_starts.specs.Told.{told_of, slots_of, Placed, placed, rooms_of, is_same, is_later, has_come, stands}

-- whether a server has a disk in this run
abbrev pub has_disk : List Told → ServerId → Bool
has_disk all server = option_map_or (λ told. told.on_disk) (told_of all server) false

-- whether a fileset is leaving for a server under a ship number
abbrev pub is_shipped : ServerId → ℕ → Stay → Bool
is_shipped server ship Writable = false
is_shipped server ship Clone = false
is_shipped server ship (Leaving to sent) = (to.0 == server.0) && (sent == ship)
is_shipped server ship (Arriving from taken parts) = false
is_shipped server ship (Gone to) = false

-- whether what arrives at a server under a ship number comes from this other slot: it is leaving so, with one move
-- fewer, the same name and the same object limit
abbrev pub is_sender : ServerId → ℕ → Slot → Slot → Bool
is_sender server ship slot other =
    is_same slot other && is_shipped server ship other.stay && (other.moves + 1 == slot.moves)
    && same_name other.name slot.name && (other.objects == slot.objects)

-- Whether the other server that a slot of a server names has what it must: a disk, where the fileset left or is leaving
-- for it; the fileset, where it has left; the slot that it comes from, where it is arriving.
abbrev pub is_matched : List Told → ServerId → Slot → Stay → Bool
is_matched all server slot Writable = true
is_matched all server slot Clone = true
is_matched all server slot (Leaving to ship) = has_disk all to
is_matched all server slot (Arriving from ship parts) = list_any (is_sender server ship slot) (slots_of all from)
is_matched all server slot (Gone to) = has_disk all to && has_come all slot to

-- whether it is a clone
abbrev pub is_clone : Stay → Bool
is_clone Writable = false
is_clone Clone = true
is_clone (Leaving to ship) = false
is_clone (Arriving from ship parts) = false
is_clone (Gone to) = false

-- Whether a fileset that is in another slot after further moves is still the one that left, or is leaving: it has the
-- name; and where it is leaving, so that room may be kept for it, it is no clone and has the object limit.
abbrev pub is_still : Slot → Slot → Stay → Bool
is_still slot other Writable = true
is_still slot other Clone = true
is_still slot other (Leaving to ship) =
    same_name other.name slot.name && not (is_clone other.stay) && (other.objects == slot.objects)
is_still slot other (Arriving from ship parts) = true
is_still slot other (Gone to) = same_name other.name slot.name

-- whether that is so of another slot, where the fileset is in it after further moves
abbrev pub is_still_in : List Told → Slot → Slot → Bool
is_still_in all slot other = not (is_later slot other && stands all other) || is_still slot other slot.stay

-- whether that is so of all
abbrev pub is_continued : List Told → Slot → Bool
is_continued all slot = list_all (λ told. list_all (is_still_in all slot) told.slots) all

-- whether the fileset of a slot is in a slot of an earlier server too
abbrev pub is_earlier : List Told → ServerId → Slot → Bool
is_earlier all server slot =
    list_any (λ told. list_any (λ other. is_same slot other && stands all other) told.slots) (take (server.0 - 1) all)

-- Whether a slot of a server fits: no server gives its fileset's number again; the other server that it names has what
-- it must; where the fileset is in another slot after further moves, it is still the same; and where it is in this one,
-- no earlier server has it.
abbrev pub fits : List Told → Placed → Bool
fits all at =
    is_given (rooms_of all) at.slot.fileset && is_matched all at.server at.slot at.slot.stay
    && is_continued all at.slot && not (stands all at.slot && is_earlier all at.server at.slot)

-- the first slot that doesn't fit
abbrev pub misfit : List Told → Option Placed
misfit all = find (λ at. not (fits all at)) (placed all)

-- why the disks are refused: the first slot that doesn't fit
abbrev pub IsRefused : List Told → FitRefused → Type 0
IsRefused all (Unfit disk slot) = (at : Placed) × (misfit all ≡ Some at) × (disk ≡ at.server.0) × (slot ≡ at.slot.at)
IsRefused all Memory = Unit {0}

-- whether an unfinished move of a slot is to be settled: the fileset is in the slot, which doesn't say so yet, or says
-- that more than the head came
abbrev pub is_open : List Told → Slot → Bool
is_open all slot = is_unsettled slot.stay && stands all slot

-- what is to be settled of these slots
abbrev pub settlings_in : List Told → List Placed → List Settling
settlings_in all slots =
    map (λ at. record { server = at.server; fileset = at.slot.fileset }) (filter (λ at. is_open all at.slot) slots)

-- what is to be settled
abbrev pub settlings_of : List Told → List Settling
settlings_of all = settlings_in all (placed all)
