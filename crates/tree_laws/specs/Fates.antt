-- What entries of a history leave of each object, part by part, as functions of what was there before.
use Rattle.std.specs.Prelude.{
  ◌≡◌,
  ℕ,
  ◌+◌,
  ◌-◌,
  ◌==◌,
  nat_lt,
  nat_le,
  min,
  Bool,
  true,
  false,
  ◌&&◌,
  ◌||◌,
  not,
  if◌then◌else◌,
  List,
  [],
  ◌∷◌,
  length,
  insert,
  filter,
  slice_get,
  slice_set,
  Option,
  Some,
  None,
  unwrap_or,
  Result,
  Ok,
  Err,
}
use Rattle.std.specs.Option.{option_map, option_map_or}
use Rattle.base_types.specs.Ids.{same_fid}
use Rattle.base_types.specs.Image.{byte_at}
use Rattle.base_types.specs.Name.{same_name}
use Rattle.base_types.specs.Outcomes.{and_then, either}
use Rattle.base_types.specs.Spans.{in_spans}
use Rattle.base_types.specs.Users.{first_group}
use Rattle.base_types.specs.declared.access.AccessEntry.{AccessEntry}
use Rattle.base_types.specs.declared.ids.HostId.{HostId}
use Rattle.base_types.specs.declared.ids.ServerId.{ServerId}
use Rattle.base_types.specs.declared.ids.FilesetId.{FilesetId}
use Rattle.base_types.specs.declared.ids.Fid.{Fid}
use Rattle.base_types.specs.declared.span.Span.{Span}
use Rattle.base_types.specs.declared.user.User.{User}
use Rattle.tree_calls.specs.declared.call.Call.{Call as CallOf}
use Rattle.tree_calls.specs.declared.call.Call.TheVariants.{
  NewFileset,
  Create,
  MakeDir,
  Remove,
  Rename,
  Truncate,
  SetAcl,
  CloneFileset,
  Write,
  Sync,
  MoveFileset,
}
use Rattle.tree_calls.specs.declared.entry.Entry.{Entry}
use Rattle.tree_calls.specs.declared.entry.Entry.TheVariants.{Call, Stored, Down, Left}
use Rattle.tree_calls.specs.declared.part.DirEntry.{DirEntry}
use Rattle.tree_calls.specs.declared.place.Which.{Which}
use Rattle.tree_calls.specs.declared.place.Which.TheVariants.{Files, Dirs}
use Rattle.tree_calls.specs.declared.reply.Refusal.{Refusal}
use Rattle.tree_calls.specs.declared.reply.Refusal.TheVariants.{ReadOnly, Exists}
use Rattle.tree_calls.specs.Rosters.{user_of}
use Rattle.tree_objects.specs.declared.content.Content.{Content}
use Rattle.tree_objects.specs.Entries.{entry_place}
use Rattle.tree_objects.specs.Objects.{list_index, access_of}
use Rattle.tree_objects.specs.Spans.{whole}
use Rattle.tree_filesets.specs.declared.fileset.Fileset.{Fileset}
use Rattle.tree_filesets.specs.Changing.{write_target, set_access_target}
use Rattle.tree_filesets.specs.Checks.{unless, split_path}
use Rattle.tree_filesets.specs.Creation.{vacancy}
use Rattle.tree_filesets.specs.Founding.{new_fileset}
use Rattle.tree_filesets.specs.Removal.{remove_target}
use Rattle.tree_filesets.specs.Renaming.{rename_target}
use Rattle.tree_filesets.specs.Walk.{unique_at, file_target, insert_target}
use Rattle.tree_answers.specs.declared.tree.Tree.{Tree}
use Rattle.tree_answers.specs.declared.tree.ServerRoom.{ServerRoom}
use Rattle.tree_answers.specs.Answers.{deciding_place}
use Rattle.tree_answers.specs.Finding.{has_id}
use Rattle.tree_answers.specs.Founding.{next_id, new_fileset_target, clone_target}
use Rattle.tree_answers.specs.Histories.{IsLegal, after_entry}
use Rattle.tree_answers.specs.Losses.{is_at}
use Rattle.tree_answers.specs.Moving.{move_target}
use Rattle.tree_answers.specs.Uses.{is_used}
use Rattle.tree_answers.specs.WellFormed.{IsWellFormed}
use Rattle.tree_laws.specs.Parts.{
  Part,
  Seen,
  Nature,
  Written,
  Cell,
  present,
  settled,
  no_cell,
  cell_found,
  cell_at,
  object_in,
}
use Rattle.tree_laws.specs.Parts.Part.{ByteAt, Size, Traits, Entries}

-- what there is of one object
abbrev pub Cells : Type 0
Cells = (part : Part) → Cell (Seen part)

-- what becomes of one object
pub data Fate : Type 0 where
  -- nothing
  Stays : Fate
  -- a host writes bytes from a position on
  IsWritten : HostId → ℕ → List ℕ → Fate
  -- all becomes kept, and then the length is set
  IsCut : ℕ → Fate
  -- a host stores what it wrote in some spans, and a length; or all that it wrote
  IsStored : HostId → List Span → Option ℕ → Fate
  IsSynced : HostId → Fate
  -- a host's unsaved changes are lost
  IsForgotten : HostId → Fate
  -- a list is replaced
  IsListed : Which → List AccessEntry → Fate
  -- in a directory an entry comes, and then that of a name goes
  Turns : Option DirEntry → Option (List ℕ) → Fate
  -- it comes, or goes, with nothing unsaved
  Becomes : ((part : Part) → Seen part) → Fate

-- a host's
abbrev pub is_of : {X : Type 0} → HostId → Option (Written X) → Bool
is_of host unsaved = option_map_or (λ written. written.writer.0 == host.0) unsaved false

abbrev pub without : {X : Type 0} → HostId → Option (Written X) → Option (Written X)
without host unsaved = if is_of host unsaved then None else unsaved

-- a byte after a write, a store
abbrev pub byte_written : HostId → ℕ → List ℕ → ℕ → Cell ℕ → Cell ℕ
byte_written host from bytes at cell =
    if nat_le from at && nat_lt at (from + length bytes)
    then record cell { unsaved = Some (record { writer = host; value = byte_at bytes (at - from) }) }
    else cell

abbrev pub byte_stored : HostId → List Span → ℕ → ℕ → Cell ℕ → Cell ℕ
byte_stored host spans end at cell =
    if is_of host cell.unsaved && nat_lt at end && in_spans spans at
    then settled (present cell)
    else record cell { kept = if nat_lt at end then cell.kept else 0 }

-- a size after a write that ends at a position, a store
abbrev pub size_written : HostId → ℕ → Cell ℕ → Cell ℕ
size_written host end cell =
    if nat_lt (present cell) end then record cell { unsaved = Some (record { writer = host; value = end }) } else cell

abbrev pub size_left : ℕ → Option (Written ℕ) → Option (Written ℕ)
size_left stored None = None
size_left stored (Some written) = if written.value == stored then None else Some written

abbrev pub size_stored : Option ℕ → Cell ℕ → Cell ℕ
size_stored None cell = cell
size_stored (Some stored) cell = record { kept = stored; unsaved = size_left stored cell.unsaved }

-- the size that a host made
abbrev pub own_size : HostId → Cell ℕ → Option ℕ
own_size host cell = if is_of host cell.unsaved then option_map (λ written. written.value) cell.unsaved else None

abbrev pub nature_listed : Which → List AccessEntry → Nature → Nature
nature_listed which list nature = record nature { lists = slice_set nature.lists (list_index which) list }

abbrev pub with_entry : Option DirEntry → List DirEntry → List DirEntry
with_entry None entries = entries
with_entry (Some entry) entries = insert entries (entry_place entries entry.name) entry

abbrev pub without_entry : Option (List ℕ) → List DirEntry → List DirEntry
without_entry None entries = entries
without_entry (Some name) entries = filter (λ entry. not (same_name entry.name name)) entries

abbrev pub turned : Option DirEntry → Option (List ℕ) → List DirEntry → List DirEntry
turned gained dropped entries = without_entry dropped (with_entry gained entries)

-- what is there of an object after its fate
abbrev pub after_fate : Fate → Cells → Cells
after_fate Stays cells part = cells part
after_fate (IsWritten host from bytes) cells (ByteAt at) = byte_written host from bytes at (cells (ByteAt at))
after_fate (IsWritten host from bytes) cells Size = size_written host (from + length bytes) (cells Size)
after_fate (IsWritten host from bytes) cells part = cells part
after_fate (IsCut len) cells (ByteAt at) =
    settled (if nat_lt at (min (present (cells Size)) len) then present (cells (ByteAt at)) else 0)
after_fate (IsCut len) cells Size = settled len
after_fate (IsCut len) cells part = cells part
after_fate (IsStored host spans stored) cells (ByteAt at) =
    byte_stored host spans (unwrap_or stored (cells Size).kept) at (cells (ByteAt at))
after_fate (IsStored host spans stored) cells Size = size_stored stored (cells Size)
after_fate (IsStored host spans stored) cells part = cells part
after_fate (IsSynced host) cells (ByteAt at) =
    let end = unwrap_or (own_size host (cells Size)) (cells Size).kept in
    byte_stored host (whole ∷ []) end at (cells (ByteAt at))
after_fate (IsSynced host) cells Size = size_stored (own_size host (cells Size)) (cells Size)
after_fate (IsSynced host) cells part = cells part
after_fate (IsForgotten host) cells (ByteAt at) =
    record (cells (ByteAt at)) { unsaved = without host (cells (ByteAt at)).unsaved }
after_fate (IsForgotten host) cells Size = record (cells Size) { unsaved = without host (cells Size).unsaved }
after_fate (IsForgotten host) cells part = cells part
after_fate (IsListed which list) cells Traits = settled (option_map (nature_listed which list) (cells Traits).kept)
after_fate (IsListed which list) cells part = cells part
after_fate (Turns gained dropped) cells Size = settled (length (turned gained dropped (cells Entries).kept))
after_fate (Turns gained dropped) cells Entries = settled (turned gained dropped (cells Entries).kept)
after_fate (Turns gained dropped) cells part = cells part
after_fate (Becomes values) cells part = settled (values part)

-- what is seen of an object that isn't there
abbrev pub no_values : (part : Part) → Seen part
no_values part = (no_cell part).kept

-- what was present, which is all that a fileset that moves takes along
abbrev pub moved_values : Cells → (part : Part) → Seen part
moved_values cells (ByteAt at) = if nat_lt at (present (cells Size)) then present (cells (ByteAt at)) else 0
moved_values cells part = present (cells part)

-- a clone shows the same, and is read-only
abbrev pub nature_cloned : Nature → Nature
nature_cloned nature = record nature { read_only = true }

abbrev pub clone_values : Cells → (part : Part) → Seen part
clone_values cells Traits = option_map nature_cloned (cells Traits).kept
clone_values cells part = moved_values cells part

-- whether a fid names the present use of an anode
abbrev pub names_use : Fileset → ℕ → Fid → Bool
names_use fileset anode fid = (anode == fid.anode) && (unique_at fileset.anodes anode == fid.unique)

-- the fate of what a call's checks reach
abbrev pub if_reached : Fileset → Fid → Fate → Result ℕ Refusal → Fate
if_reached fileset fid fate (Ok anode) = if names_use fileset anode fid then fate else Stays
if_reached fileset fid fate (Err refusal) = Stays

abbrev pub write_fate : HostId → ℕ → List ℕ → Fate
write_fate host from [] = Stays
write_fate host from (byte ∷ bytes) = IsWritten host from (byte ∷ bytes)

-- the lists of a new file, and of a new directory
abbrev pub new_lists : Bool → Content → Result (List (List AccessEntry)) Refusal
new_lists false directory = and_then (access_of Files directory) (λ files. Ok (files ∷ []))
new_lists true directory =
    and_then (access_of Files directory) (λ files.
    and_then (access_of Dirs directory) (λ dirs. Ok (dirs ∷ files ∷ dirs ∷ [])))

-- the nature of what a user makes
abbrev pub new_nature : Bool → User → List (List AccessEntry) → Nature
new_nature dir user lists = record {
  dir = dir;
  read_only = false;
  owner = user.name;
  group = first_group user;
  lists = lists;
}

-- Create, MakeDir: ReadOnly; Exists; walk to the parent; Denied; Exists; TooMany. The parent, the new entry, and the
-- new object's nature
abbrev pub creation : Fileset → Bool → User → List (List ℕ) → Result (ℕ × DirEntry × Nature) Refusal
creation fileset dir user path =
    unless fileset.read_only ReadOnly (
    and_then (split_path path Exists) (λ (name, front).
    and_then (insert_target fileset user front name) (λ (parent, directory).
    and_then (vacancy fileset) (λ vacancy.
    and_then (new_lists dir directory.content) (λ lists.
    let entry : DirEntry = record { name = name; anode = vacancy.anode; unique = vacancy.unique } in
    Ok (parent, entry, new_nature dir user lists))))))

-- a new object has no bytes and no entries
abbrev pub new_values : Nature → (part : Part) → Seen part
new_values nature Traits = Some nature
new_values nature part = no_values part

-- Create, MakeDir: the new object comes, and its entry
abbrev pub create_fate : Fileset → Fid → Result (ℕ × DirEntry × Nature) Refusal → Fate
create_fate fileset fid (Ok (parent, entry, nature)) =
    if (entry.anode == fid.anode) && (entry.unique == fid.unique) then Becomes (new_values nature)
    else if names_use fileset parent fid then Turns (Some entry) None
    else Stays
create_fate fileset fid (Err refusal) = Stays

-- Remove: the object goes, and its entry
abbrev pub remove_fate : Fileset → Fid → Result (ℕ × List ℕ × ℕ) Refusal → Fate
remove_fate fileset fid (Ok (parent, name, anode)) =
    if names_use fileset anode fid then Becomes no_values
    else if names_use fileset parent fid then Turns None (Some name)
    else Stays
remove_fate fileset fid (Err refusal) = Stays

-- Rename: the entry moves
abbrev pub rename_fate : Fileset → Fid → Result (ℕ × DirEntry × ℕ × List ℕ) Refusal → Fate
rename_fate fileset fid (Ok (to, entry, from, name)) =
    let gains = names_use fileset to fid in
    let drops = names_use fileset from fid in
    if gains || drops then Turns (if gains then Some entry else None) (if drops then Some name else None) else Stays
rename_fate fileset fid (Err refusal) = Stays

-- in the fileset that decides a call
abbrev pub fate_row : Fileset → (Fid → Bool) → HostId → User → CallOf → Fid → Fate
fate_row fileset in_use host user (Create place) fid =
    create_fate fileset fid (creation fileset false user place.path)
fate_row fileset in_use host user (MakeDir place) fid =
    create_fate fileset fid (creation fileset true user place.path)
fate_row fileset in_use host user (Remove place) fid =
    remove_fate fileset fid (remove_target fileset in_use user place.path)
fate_row fileset in_use host user (Rename from to) fid =
    rename_fate fileset fid (
    and_then (rename_target fileset user from.path to.path) (λ move. Ok (move.to, move.entry, move.from, move.name)))
fate_row fileset in_use host user (Truncate place len) fid =
    if_reached fileset fid (IsCut len) (write_target fileset user place.path len)
fate_row fileset in_use host user (SetAcl place which list) fid =
    if_reached fileset fid (IsListed which list) (set_access_target fileset user place.path which)
fate_row fileset in_use host user (Write place from bytes) fid =
    if_reached fileset fid (write_fate host from bytes) (write_target fileset user place.path (from + length bytes))
fate_row fileset in_use host user (Sync place) fid =
    if_reached fileset fid (IsSynced host) (
    and_then (file_target fileset user place.path) (λ (anode, object). Ok anode))
fate_row fileset in_use host user _ fid = Stays

abbrev pub fate_at : Tree → HostId → User → CallOf → Fid → Option Fileset → Fate
fate_at tree host user call fid None = Stays
fate_at tree host user call fid (Some fileset) =
    if has_id fid.fileset fileset then fate_row fileset (is_used tree.locks tree.opens) host user call fid else Stays

-- a new fileset has a root
abbrev pub new_fate : ServerId → List ℕ → ℕ → User → Fid → Result ServerRoom Refusal → Fate
new_fate server name objects owner fid (Ok room) =
    let id = next_id server room in
    let new = new_fileset server id name objects owner in
    if id.0 == fid.fileset.0 then Becomes (λ part. (cell_found false (object_in new fid) part).kept) else Stays
new_fate server name objects owner fid (Err refusal) = Stays

-- the same use of the same anode in another fileset
abbrev pub fid_at : FilesetId → Fid → Fid
fid_at id fid = record fid { fileset = id }

-- a clone shows what its source showed
abbrev pub clone_fate : Tree → ServerId → Fid → Result (Fileset × ServerRoom) Refusal → Fate
clone_fate tree server fid (Ok (source, room)) =
    if (next_id server room).0 == fid.fileset.0 then Becomes (clone_values (cell_at tree (fid_at source.id fid)))
    else Stays
clone_fate tree server fid (Err refusal) = Stays

-- in a fileset that moves all becomes kept
abbrev pub move_fate : Tree → Fid → Result (ℕ × Fileset) Refusal → Fate
move_fate tree fid (Ok (place, fileset)) =
    if has_id fid.fileset fileset then Becomes (moved_values (cell_at tree fid)) else Stays
move_fate tree fid (Err refusal) = Stays

abbrev pub fate_for : Tree → HostId → CallOf → Fid → Option User → Fate
fate_for tree host call fid None = Stays
fate_for tree host (NewFileset server name objects owner) fid (Some user) =
    new_fate server name objects owner fid (new_fileset_target tree server name objects)
fate_for tree host (CloneFileset server source new) fid (Some user) =
    clone_fate tree server fid (clone_target tree user server source new)
fate_for tree host (MoveFileset server name to) fid (Some user) =
    move_fate tree fid (move_target tree user server name to)
fate_for tree host call fid (Some user) =
    either (deciding_place tree call)
    (λ place. fate_at tree host user call fid (slice_get tree.filesets place)) (λ refusal. Stays)

-- what becomes of the object that a fid names
abbrev pub fate : Tree → Entry → Fid → Fate
fate tree (Call host k call reply) fid = fate_for tree host call fid (user_of tree.roster host)
fate tree (Stored host file spans stored) fid = if same_fid file fid then IsStored host spans stored else Stays
fate tree (Down host server) fid = if is_at tree.filesets server fid.fileset then IsForgotten host else Stays
fate tree (Left server id) fid = Stays

-- each legal entry leaves of each part of each object what is said of it
abbrev pub PartsChangeSo : Type 0
PartsChangeSo = (tree : Tree) (entry : Entry) (fid : Fid) (part : Part) → IsWellFormed tree → IsLegal tree entry →
    cell_at (after_entry tree entry) fid part ≡ after_fate (fate tree entry fid) (cell_at tree fid) part
