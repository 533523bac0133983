-- File trees as JSON. The names of members are those of the fields.
use Rattle.std.specs.Prelude.{ℕ, List, Option, codes}
use Rattle.json.specs.Json.{Json, boolean, object, no_members, member}
use Rattle.base_types.specs.declared.access.AccessEntry.{AccessEntry}
use Rattle.tree_calls.specs.declared.part.DirEntry.{DirEntry}
use Rattle.tree_calls.specs.declared.roster.HostLine.{HostLine}
use Rattle.tree_calls.specs.declared.roster.Roster.{Roster}
use Rattle.tree_objects.specs.declared.content.Anode.{Anode}
use Rattle.tree_objects.specs.declared.content.Content.{Content}
use Rattle.tree_objects.specs.declared.content.Content.TheVariants.{Dir, File}
use Rattle.tree_objects.specs.declared.content.Object.{Object}
use Rattle.tree_objects.specs.declared.content.Unsaved.{Unsaved}
use Rattle.tree_objects.specs.declared.content.UnsavedLength.{UnsavedLength}
use Rattle.tree_filesets.specs.declared.fileset.Fileset.{Fileset}
use Rattle.tree_answers.specs.declared.tree.Away.{Away}
use Rattle.tree_answers.specs.declared.tree.LockUse.{LockUse}
use Rattle.tree_answers.specs.declared.tree.OpenUse.{OpenUse}
use Rattle.tree_answers.specs.declared.tree.ServerRoom.{ServerRoom}
use Rattle.tree_answers.specs.declared.tree.Tree.{Tree}
use Rattle.message_json.specs.Calls.{access_json, user_json}
use Rattle.message_json.specs.Objects.{entry_json}
use Rattle.message_json.specs.Parts.{fid_json, open_json, span_json}
use Rattle.message_json.specs.Values.{whole, letters, list, maybe, tagged}

unfoldable pub host_line_json : HostLine → Json
host_line_json line = object
    (member (codes "user") (whole line.user)
    (member (codes "limit") (whole line.limit) no_members))

unfoldable pub roster_json : Roster → Json
roster_json roster = object
    (member (codes "users") (list user_json roster.users)
    (member (codes "hosts") (list host_line_json roster.hosts)
    (member (codes "capacity") (list whole roster.capacity) no_members)))

unfoldable pub unsaved_json : Unsaved → Json
unsaved_json unsaved = object
    (member (codes "at") (whole unsaved.at)
    (member (codes "value") (whole unsaved.value)
    (member (codes "writer") (whole unsaved.writer.0) no_members)))

unfoldable pub unsaved_length_json : UnsavedLength → Json
unsaved_length_json unsaved = object
    (member (codes "length") (whole unsaved.length)
    (member (codes "writer") (whole unsaved.writer.0) no_members))

-- a directory, and a file
abbrev pub dir_json : List DirEntry → List (List AccessEntry) → Json
dir_json entries lists = tagged (codes "dir") (object
    (member (codes "entries") (list entry_json entries)
    (member (codes "lists") (list access_json lists) no_members)))

abbrev pub file_json : List AccessEntry → List ℕ → List Unsaved → Option UnsavedLength → Json
file_json own kept unsaved len = tagged (codes "file") (object
    (member (codes "list") (access_json own)
    (member (codes "kept") (letters kept)
    (member (codes "unsaved") (list unsaved_json unsaved)
    (member (codes "length") (maybe unsaved_length_json len) no_members)))))

unfoldable pub content_json : Content → Json
content_json (Dir entries lists) = dir_json entries lists
content_json (File own kept unsaved len) = file_json own kept unsaved len

unfoldable pub object_json : Object → Json
object_json it = object
    (member (codes "owner") (letters it.owner)
    (member (codes "group") (letters it.group)
    (member (codes "content") (content_json it.content) no_members)))

unfoldable pub anode_json : Anode → Json
anode_json anode = object
    (member (codes "unique") (whole anode.unique)
    (member (codes "object") (maybe object_json anode.object) no_members))

unfoldable pub fileset_json : Fileset → Json
fileset_json fileset = object
    (member (codes "server") (whole fileset.server.0)
    (member (codes "id") (whole fileset.id.0)
    (member (codes "name") (letters fileset.name)
    (member (codes "read_only") (boolean fileset.read_only)
    (member (codes "objects") (whole fileset.objects)
    (member (codes "moves") (whole fileset.moves)
    (member (codes "anodes") (list anode_json fileset.anodes) no_members)))))))

unfoldable pub room_json : ServerRoom → Json
room_json room = object
    (member (codes "capacity") (whole room.capacity)
    (member (codes "next") (whole room.next) no_members))

unfoldable pub lock_json : LockUse → Json
lock_json lock = object
    (member (codes "host") (whole lock.host.0)
    (member (codes "label") (letters lock.label)
    (member (codes "fid") (fid_json lock.fid)
    (member (codes "writing") (boolean lock.writing)
    (member (codes "span") (span_json lock.span) no_members)))))

unfoldable pub open_use_json : OpenUse → Json
open_use_json use_of = object
    (member (codes "host") (whole use_of.host.0)
    (member (codes "label") (letters use_of.label)
    (member (codes "fid") (fid_json use_of.fid)
    (member (codes "kind") (open_json use_of.kind) no_members))))

unfoldable pub away_json : Away → Json
away_json away = object
    (member (codes "server") (whole away.server.0)
    (member (codes "fileset") (whole away.fileset.0)
    (member (codes "name") (letters away.name)
    (member (codes "to") (whole away.to.0)
    (member (codes "room_kept") (boolean away.room_kept) no_members)))))

unfoldable pub tree_json : Tree → Json
tree_json tree = object
    (member (codes "roster") (roster_json tree.roster)
    (member (codes "servers") (list room_json tree.servers)
    (member (codes "filesets") (list fileset_json tree.filesets)
    (member (codes "away") (list away_json tree.away)
    (member (codes "locks") (list lock_json tree.locks)
    (member (codes "opens") (list open_use_json tree.opens) no_members))))))
