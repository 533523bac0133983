-- What a store tells.
use Rattle.std.specs.Prelude.{
  ℕ,
  ◌+◌,
  ◌-◌,
  ◌==◌,
  Bool,
  ◌||◌,
  if◌then◌else◌,
  List,
  [],
  ◌∷◌,
  take,
  drop,
  slice_get,
  Option,
  Some,
  None,
  is_some,
  unwrap_or,
  Result,
  Ok,
}
use Rattle.std.specs.Option.{option_map, option_map_or, option_and_then}
use Rattle.base_types.specs.Outcomes.{and_then, either}
use Rattle.base_types.specs.declared.ids.Fid.{Fid}
use Rattle.base_types.specs.declared.ids.FilesetId.{FilesetId}
use Rattle.base_types.specs.declared.ids.HostId.{HostId}
use Rattle.base_types.specs.declared.limits.TheConstants.{OBJECTS_MAX}
use Rattle.base_types.specs.declared.span.Span.{Span}
use Rattle.base_types.specs.declared.user.User.{User}
use Rattle.tree_calls.specs.declared.part.DirEntry.{DirEntry}
use Rattle.tree_calls.specs.declared.part.Status.{Status}
use Rattle.tree_calls.specs.declared.place.Place.{Place}
use Rattle.tree_calls.specs.declared.reply.Refusal.{Refusal}
use Rattle.tree_calls.specs.declared.ship.Mover.{Mover}
use Rattle.tree_calls.specs.declared.ship.Record.{Record}
use Rattle.tree_calls.specs.declared.ship.ShipPart.{ShipPart}
use Rattle.tree_objects.specs.declared.content.Anode.{Anode}
use Rattle.tree_objects.specs.declared.content.Object.{Object}
use Rattle.tree_filesets.specs.declared.fileset.Fileset.{Fileset}
use Rattle.tree_filesets.specs.Laws.{entries_in}
use Rattle.tree_filesets.specs.Walk.{target, unique_at}
use Rattle.store_state.specs.declared.state.HostState.{HostState}
use Rattle.store_state.specs.declared.state.HostState.TheVariants.{Unknown}
use Rattle.store_memory.specs.declared.told.Looked.{Looked}
use Rattle.store_memory.specs.declared.told.Looked.TheVariants.{Found, Refused}
use Rattle.store_state.specs.declared.state.Holding.{Holding}
use Rattle.store_memory.specs.declared.told.Kept.{Kept}
use Rattle.store_memory.specs.declared.told.Slot.{Slot}
use Rattle.store_state.specs.declared.state.Stay.{Stay}
use Rattle.store_state.specs.declared.state.StoreState.{StoreState}
use Rattle.store_state.specs.Sought.{is_here_of}
use Rattle.store_state.specs.State.{is_here, is_leaving, is_of, held_so, records_of, record_of}
use Rattle.store_state.specs.Rows.{fileset_here}
use Rattle.store_acts.specs.Parts.{told_object, status_of, kept_bytes, object_part, part_of}

-- what is known of a host
abbrev pub host_state : StoreState → HostId → HostState
host_state state host = unwrap_or (slice_get state.hosts host.0) Unknown

-- what is kept of a host's requests on a fileset; nothing where it isn't here
abbrev pub last_of : StoreState → HostId → FilesetId → (Record → ℕ) → ℕ
last_of state host id number = option_map_or (λ records. number (record_of records host)) (records_of state id) 0

-- the fileset of an id that is here
abbrev pub fileset_of : StoreState → FilesetId → Option Fileset
fileset_of state id = option_map (λ holding. holding.fileset) (held_so (is_here_of id) state.slots)

-- the objects at anodes, of which the first has this number
abbrev pub fids_from : FilesetId → ℕ → List Anode → List Fid
fids_from id at [] = []
fids_from id at (anode ∷ anodes) =
    if is_some anode.object
    then record { fileset = id; anode = at; unique = anode.unique } ∷ fids_from id (at + 1) anodes
    else fids_from id (at + 1) anodes

-- the objects of a fileset that is here, in the order of their anodes
abbrev pub files_of : StoreState → FilesetId → List Fid
files_of state id =
    option_map_or (λ fileset. fids_from id 1 (take OBJECTS_MAX fileset.anodes)) (fileset_of state id) []

-- the anode of the object that a path leads a user to
abbrev pub anode_led : Fileset → User → List (List ℕ) → Result ℕ Refusal
anode_led fileset user path = and_then (target fileset user path) (λ (anode, object). Ok anode)

-- where a path leads in a fileset
abbrev pub walk_in : Fileset → User → Place → Looked
walk_in fileset user place =
    either (anode_led fileset user place.path)
    (λ anode. Found (record { fileset = fileset.id; anode = anode; unique = unique_at fileset.anodes anode }))
    (λ refusal. Refused refusal)

-- where a place leads: NoFileset; walk
abbrev pub looked_up : StoreState → User → Place → Looked
looked_up state user place =
    either (fileset_here state place.fileset) (λ fileset. walk_in fileset user place) (λ refusal. Refused refusal)

-- the object that a fid names in a fileset, as far as it may be told
abbrev pub object_in : Fileset → Fid → Option Object
object_in fileset fid =
    if unique_at fileset.anodes fid.anode == fid.unique then told_object fileset.anodes fid.anode else None

-- the object that a fid names
abbrev pub object_named : StoreState → Fid → Option Object
object_named state fid = option_and_then (λ fileset. object_in fileset fid) (fileset_of state fid.fileset)

-- its status
abbrev pub status_told : StoreState → Fid → Option Status
status_told state fid =
    option_and_then (λ fileset. option_map (status_of fileset.read_only) (object_in fileset fid))
    (fileset_of state fid.fileset)

-- its bytes in a span, and none of a directory
abbrev pub bytes_told : StoreState → Fid → Span → List ℕ
bytes_told state fid span =
    option_map_or (λ object. take (span.to - span.from) (drop span.from (kept_bytes object.content)))
    (object_named state fid) []

-- its entries, and none of a file
abbrev pub entries_told : StoreState → Fid → List DirEntry
entries_told state fid = option_map_or (λ object. entries_in object.content) (object_named state fid) []

-- whether a fileset is here or leaving
abbrev pub is_kept : Stay → Bool
is_kept stay = is_here stay || is_leaving stay

-- the filesets that are kept
abbrev pub filesets_kept : List (Option Holding) → List Fileset
filesets_kept [] = []
filesets_kept (None ∷ slots) = filesets_kept slots
filesets_kept (Some holding ∷ slots) =
    if is_kept holding.stay then holding.fileset ∷ filesets_kept slots else filesets_kept slots

abbrev pub kept_of : StoreState → Kept
kept_of state = record { capacity = state.capacity; next = state.next; filesets = filesets_kept state.slots }

-- what is told of a slot
abbrev pub slot_told : ℕ → Holding → Slot
slot_told at holding = record {
  at = at;
  fileset = holding.fileset.id;
  name = holding.fileset.name;
  objects = holding.fileset.objects;
  moves = holding.fileset.moves;
  stay = holding.stay;
}

-- the slots that are used, where the first has this number
abbrev pub slots_from : ℕ → List (Option Holding) → List Slot
slots_from at [] = []
slots_from at (None ∷ slots) = slots_from (at + 1) slots
slots_from at (Some holding ∷ slots) = slot_told at holding ∷ slots_from (at + 1) slots

-- a part of a fileset that is leaving; of no fileset a free anode is told
abbrev pub shipped : StoreState → FilesetId → ℕ → Mover → ShipPart
shipped state id at mover =
    option_map_or (λ holding. part_of holding at mover) (held_so (is_of id) state.slots) (object_part at 0 None)
