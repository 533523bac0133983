-- When a tree is well formed.
use Rattle.std.specs.Prelude.{
  ◌≡◌,
  ◌≤◌,
  ℕ,
  ◌/◌,
  ◌%◌,
  ◌==◌,
  nat_lt,
  Bool,
  true,
  false,
  ◌&&◌,
  ◌||◌,
  not,
  List,
  [],
  ◌∷◌,
  length,
  Some,
}
use Rattle.std.specs.List.{list_any, list_all, find}
use Rattle.std.specs.Option.{option_map_or}
use Rattle.base_types.specs.Name.{same_name}
use Rattle.base_types.specs.declared.limits.TheConstants.{FILESETS_MAX}
use Rattle.base_types.specs.declared.ids.Fid.{Fid}
use Rattle.base_types.specs.declared.ids.FilesetId.{FilesetId}
use Rattle.base_types.specs.declared.ids.ServerId.{ServerId}
use Rattle.tree_calls.specs.declared.entry.Entry.{Entry}
use Rattle.tree_calls.specs.declared.entry.Entry.TheVariants.{Call}
use Rattle.tree_filesets.specs.declared.fileset.Fileset.{Fileset}
use Rattle.tree_filesets.specs.WellFormed.{is_at_rest, IsWellFormed as IsWellFormedFileset}
use Rattle.tree_filesets.specs.Laws.{is_file_at}
use Rattle.tree_calls.specs.Limits.{is_between, keeps_limits, keeps_limit}
use Rattle.tree_answers.specs.declared.tree.Tree.{Tree}
use Rattle.tree_answers.specs.declared.tree.ServerRoom.{ServerRoom}
use Rattle.tree_answers.specs.Finding.{is_named, has_id}
use Rattle.tree_answers.specs.declared.tree.Away.{Away}
use Rattle.tree_answers.specs.Away.{is_away_named, away_before}
use Rattle.tree_answers.specs.Founding.{room_of, count_at, promised_at}

-- whether the ids of filesets rise
abbrev pub ids_rise : List Fileset → Bool
ids_rise [] = true
ids_rise (fileset ∷ filesets) = list_all (λ other. nat_lt fileset.id.0 other.id.0) filesets && ids_rise filesets

-- whether no server has two filesets with one name
abbrev pub names_differ : List Fileset → Bool
names_differ [] = true
names_differ (fileset ∷ filesets) =
    not (list_any (is_named fileset.server fileset.name) filesets) && names_differ filesets

-- whether a server is one of so many
abbrev pub is_declared : ℕ → ServerId → Bool
is_declared servers server = is_between 1 servers server.0

-- whether a server has given the number of an id that is one of its own
abbrev pub is_given : List ServerRoom → FilesetId → Bool
is_given servers id =
    option_map_or (λ room. nat_lt (id.0 % 65536) room.next) (room_of servers (record { 0 = id.0 / 65536 })) true

-- whether each fileset is well formed
abbrev pub AreWellFormed : List Fileset → Type 0
AreWellFormed [] = Unit {0}
AreWellFormed (fileset ∷ filesets) = IsWellFormedFileset fileset × AreWellFormed filesets

-- whether records stand by server and then by id, and no server has two of a fileset
abbrev pub records_rise : List Away → Bool
records_rise [] = true
records_rise (away ∷ records) = list_all (away_before away.server away.fileset) records && records_rise records

-- whether no server has two records of one name
abbrev pub record_names_differ : List Away → Bool
record_names_differ [] = true
record_names_differ (away ∷ records) =
    not (list_any (is_away_named away.server away.name) records) && record_names_differ records

-- whether a record's fileset is there under the record's name, at another server than the record's
abbrev pub is_elsewhere : List Fileset → Away → Bool
is_elsewhere filesets away =
    option_map_or (λ fileset. not (fileset.server.0 == away.server.0) && same_name fileset.name away.name)
    (find (has_id away.fileset) filesets) false

-- The records of filesets that moved away are well formed.
pub record AreRecords (tree : Tree) : Type 0 where
  -- they are in their order, which allows one of a server and an id
  pub ordered : records_rise tree.away ≡ true
  -- no server has two of one name, or one of a fileset that it has
  pub named : record_names_differ tree.away ≡ true
  pub free : list_all (λ away. not (list_any (is_named away.server away.name) tree.filesets)) tree.away ≡ true
  -- each is at a server that is there, and its fileset is at another one
  pub declared : list_all (λ away. is_declared (length tree.servers) away.server) tree.away ≡ true
  pub elsewhere : list_all (is_elsewhere tree.filesets) tree.away ≡ true

-- whether a fileset has nothing unsaved, if it is a clone
abbrev pub rests_if_clone : Fileset → Bool
rests_if_clone fileset = not fileset.read_only || is_at_rest fileset

-- whether a fid names a file that is there
abbrev pub names_file : List Fileset → Fid → Bool
names_file filesets fid = option_map_or (λ fileset. is_file_at fileset fid) (find (has_id fid.fileset) filesets) false

-- A tree is well formed.
pub record IsWellFormed (tree : Tree) : Type 0 where
  -- its roster keeps the limits, and each server has its room for filesets
  pub roster : keeps_limits tree.roster ≡ true
  pub servers : length tree.servers ≡ length tree.roster.capacity
  -- its filesets are in the order of their ids, which differ
  pub ordered : ids_rise tree.filesets ≡ true
  pub named : names_differ tree.filesets ≡ true
  -- each is at a server that is there, and no server gives its number again
  pub declared : list_all (λ fileset. is_declared (length tree.servers) fileset.server) tree.filesets ≡ true
  pub given : list_all (λ fileset. is_given tree.servers fileset.id) tree.filesets ≡ true
  pub filesets : AreWellFormed tree.filesets
  -- in clones nothing is unsaved
  pub clones : list_all rests_if_clone tree.filesets ≡ true
  -- so are its records
  pub away : AreRecords tree
  -- no server has too many filesets and records, or has promised more blocks than it offers
  pub counted : (server : ServerId) → count_at tree server ≤ FILESETS_MAX
  pub promised : (server : ServerId) (room : ServerRoom)
      → room_of tree.servers server ≡ Some room → promised_at tree server ≤ room.capacity
  -- the number of each server's next fileset is in range
  pub numbers : list_all (λ room. is_between 1 65536 room.next) tree.servers ≡ true
  -- each lock and each open is on a file that is there
  pub locks : list_all (λ lock. names_file tree.filesets lock.fid) tree.locks ≡ true
  pub opens : list_all (λ opened. names_file tree.filesets opened.fid) tree.opens ≡ true

-- whether an entry keeps the limits of the service
abbrev pub is_limited : Entry → Bool
is_limited (Call host k call reply) = keeps_limit call
is_limited _ = true
