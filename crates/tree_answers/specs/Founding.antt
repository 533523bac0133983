-- How filesets come about.
use Rattle.std.specs.Prelude.{
  ℕ,
  ◌+◌,
  ◌-◌,
  ◌*◌,
  ◌==◌,
  nat_lt,
  nat_le,
  Bool,
  false,
  ◌&&◌,
  not,
  if◌then◌else◌,
  List,
  [],
  ◌∷◌,
  insert,
  map,
  slice_get,
  slice_set,
  Option,
  None,
  Result,
  Ok,
}
use Rattle.std.specs.List.{find, count_by}
use Rattle.std.specs.Option.{option_map_or}
use Rattle.base_types.specs.Outcomes.{and_then, either}
use Rattle.base_types.specs.declared.ids.ServerId.{ServerId}
use Rattle.base_types.specs.declared.ids.FilesetId.{FilesetId}
use Rattle.base_types.specs.declared.limits.TheConstants.{FILESETS_MAX, FILESET_NUMBER_MAX}
use Rattle.base_types.specs.declared.user.User.{User}
use Rattle.tree_calls.specs.declared.reply.Refusal.{Refusal}
use Rattle.tree_calls.specs.declared.reply.Refusal.TheVariants.{Exists, TooMany, NoRoom, NotHome}
use Rattle.tree_calls.specs.declared.reply.Reply.TheVariants.{Ok as Done}
use Rattle.tree_filesets.specs.declared.fileset.Fileset.{Fileset}
use Rattle.tree_filesets.specs.Checks.{unless}
use Rattle.tree_filesets.specs.Promises.{promise, new_promise, clone_promise}
use Rattle.tree_filesets.specs.Founding.{new_fileset, control_check, cloned}
use Rattle.tree_calls.specs.declared.roster.Roster.{Roster}
use Rattle.tree_answers.specs.declared.tree.Tree.{Tree}
use Rattle.tree_answers.specs.declared.tree.ServerRoom.{ServerRoom}
use Rattle.tree_answers.specs.declared.tree.Away.{Away}
use Rattle.tree_answers.specs.Finding.{Answer, refuse, has_id, found_or, fileset_named, is_taken, id_place}

-- the blocks that the filesets of a server are promised
abbrev pub promised : ServerId → List Fileset → ℕ
promised server [] = 0
promised server (fileset ∷ filesets) =
    (if fileset.server.0 == server.0 then promise fileset else 0) + promised server filesets

-- the blocks that are promised to a record: while its room is kept, as many as to its fileset
abbrev pub away_promise : List Fileset → Away → ℕ
away_promise filesets away = if away.room_kept then option_map_or promise (find (has_id away.fileset) filesets) 0 else 0

-- the blocks that are promised to the records of a server
abbrev pub away_promised : ServerId → List Fileset → List Away → ℕ
away_promised server filesets [] = 0
away_promised server filesets (away ∷ records) =
    (if away.server.0 == server.0 then away_promise filesets away else 0) + away_promised server filesets records

-- the blocks that a server has promised
abbrev pub promised_at : Tree → ServerId → ℕ
promised_at tree server = promised server tree.filesets + away_promised server tree.filesets tree.away

-- how many filesets a server has
abbrev pub fileset_count : ServerId → List Fileset → ℕ
fileset_count server filesets = count_by (λ fileset. fileset.server.0 == server.0) filesets

-- how many records a server has
abbrev pub away_count : ServerId → List Away → ℕ
away_count server records = count_by (λ away. away.server.0 == server.0) records

-- how many filesets and records a server has
abbrev pub count_at : Tree → ServerId → ℕ
count_at tree server = fileset_count server tree.filesets + away_count server tree.away

-- what a server has for further filesets; servers are counted from 1
abbrev pub room_of : List ServerRoom → ServerId → Option ServerRoom
room_of rooms server = if server.0 == 0 then None else slice_get rooms (server.0 - 1)

-- a server's room, where it may have a fileset more: TooMany (filesets and records, unless it has a record of that
-- fileset already; or no such server)
abbrev pub slot_for : Tree → ServerId → Bool → Result ServerRoom Refusal
slot_for tree server is_recorded =
    unless (not is_recorded && nat_le FILESETS_MAX (count_at tree server)) TooMany
    (found_or (room_of tree.servers server) TooMany)

-- so many blocks more are promised: NoRoom
abbrev pub blocks_for : Tree → ServerId → ServerRoom → ℕ → Result ServerRoom Refusal
blocks_for tree server room blocks = unless (nat_lt room.capacity (promised_at tree server + blocks)) NoRoom (Ok room)

-- a server's room for a new fileset that is promised so many blocks: TooMany (filesets and records, or numbers of
-- filesets); NoRoom
unfoldable pub room_for : Tree → ServerId → ℕ → Result ServerRoom Refusal
room_for tree server blocks =
    and_then (slot_for tree server false) (λ room.
    unless (nat_lt FILESET_NUMBER_MAX room.next) TooMany (
    blocks_for tree server room blocks))

-- the id of a server's next fileset
abbrev pub next_id : ServerId → ServerRoom → FilesetId
next_id server room = record { 0 = server.0 * 65536 + room.next }

-- a tree with a fileset more, for which its server gave a number
abbrev pub with_fileset : Tree → ServerId → ServerRoom → Fileset → Tree
with_fileset tree server room fileset = record tree {
  servers = slice_set tree.servers (server.0 - 1) (record room { next = room.next + 1 });
  filesets = insert tree.filesets (id_place tree.filesets fileset.id) fileset;
}

-- NewFileset: Exists; TooMany; NoRoom
unfoldable pub new_fileset_target : Tree → ServerId → List ℕ → ℕ → Result ServerRoom Refusal
new_fileset_target tree server name objects =
    unless (is_taken tree server name) Exists (room_for tree server (new_promise objects))

-- NewFileset: a fileset with an empty root
unfoldable pub new_fileset_answer : Tree → ServerId → List ℕ → ℕ → User → Answer
new_fileset_answer tree server name objects owner =
    either (new_fileset_target tree server name objects)
    (λ room. record {
      reply = Done;
      tree = with_fileset tree server room (new_fileset server (next_id server room) name objects owner);
    })
    (refuse tree)

-- the fileset that a user may clone: NoFileset; NotHome (it is at another server); ReadOnly; Denied (control of the
-- root)
unfoldable pub clone_source : Tree → User → ServerId → List ℕ → Result Fileset Refusal
clone_source tree user server source =
    and_then (fileset_named tree server source) (λ fileset.
    unless (not (fileset.server.0 == server.0)) NotHome (
    and_then (control_check fileset user) (λ _.
    Ok fileset)))

-- CloneFileset: NoFileset; NotHome; ReadOnly; Denied (control of the root); Exists; TooMany; NoRoom
unfoldable pub clone_target : Tree → User → ServerId → List ℕ → List ℕ → Result (Fileset × ServerRoom) Refusal
clone_target tree user server source new =
    and_then (clone_source tree user server source) (λ fileset.
    unless (is_taken tree server new) Exists (
    and_then (room_for tree server (clone_promise fileset)) (λ room.
    Ok (fileset, room))))

-- CloneFileset: a read-only copy
unfoldable pub clone_answer : Tree → User → ServerId → List ℕ → List ℕ → Answer
clone_answer tree user server source new =
    either (clone_target tree user server source new)
    (λ (fileset, room).
    record { reply = Done; tree = with_fileset tree server room (cloned fileset (next_id server room) new) })
    (refuse tree)

-- what a server of this capacity has before its first fileset
abbrev pub new_room : ℕ → ServerRoom
new_room capacity = record { capacity = capacity; next = 1 }

-- the tree of a roster, without filesets
abbrev pub new_tree : Roster → Tree
new_tree roster =
    record { roster = roster; servers = map new_room roster.capacity; filesets = []; away = []; locks = []; opens = [] }
