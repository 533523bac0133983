-- File trees, read back from JSON.
use Rattle.std.proofs.Common.{◌≡◌, refl, false, codes, if◌then◌else◌}
use Rattle.json.specs.Json.{Json}
use Rattle.message_json.specs.Calls.{access_entry_json, user_json}
use Rattle.message_json.specs.Objects.{entry_json}
use Rattle.message_json.specs.Values.{list, tagged, whole}
use Rattle.message_types.specs.Soundness.{Each}
use Rattle.run_journal.specs.Trees.{
  anode_json,
  away_json,
  content_json,
  fileset_json,
  host_line_json,
  lock_json,
  object_json,
  open_use_json,
  room_json,
  roster_json,
  tree_json,
  unsaved_json,
  unsaved_length_json,
}
use Rattle.run_reading.proofs.Calls.{access_entry_is, access_entry_of, user_is, user_of}
use Rattle.run_reading.proofs.Forms.{
  IsRead,
  flag_of,
  held,
  is_case,
  is_null,
  letters_is,
  letters_of,
  list_is,
  list_of,
  maybe_is,
  maybe_of,
  part,
  span_is,
  span_of,
  whole_is,
  whole_of,
}
use Rattle.run_reading.proofs.Objects.{entry_is, entry_of}
use Rattle.run_reading.proofs.Parts.{fid_is, fid_of, open_is, open_of}
use Rattle.run_reading.specs.Journals.{
  TypedAnode,
  TypedAway,
  TypedContent,
  TypedFileset,
  TypedHostLine,
  TypedLockUse,
  TypedObject,
  TypedOpenUse,
  TypedRoster,
  TypedServerRoom,
  TypedTree,
  TypedUnsaved,
  TypedUnsavedLength,
}
use Rattle.run_reading.specs.Messages.{IsWhole, TypedAccessEntry, TypedDirEntry, TypedUser}
use Rattle.tree_answers.specs.declared.tree.Away.{Away}
use Rattle.tree_answers.specs.declared.tree.LockUse.{LockUse}
use Rattle.tree_answers.specs.declared.tree.OpenUse.{OpenUse}
use Rattle.tree_answers.specs.declared.tree.ServerRoom.{ServerRoom}
use Rattle.tree_answers.specs.declared.tree.Tree.{Tree}
use Rattle.tree_calls.specs.declared.roster.HostLine.{HostLine}
use Rattle.tree_calls.specs.declared.roster.Roster.{Roster}
use Rattle.tree_filesets.specs.declared.fileset.Fileset.{Fileset}
use Rattle.tree_objects.specs.declared.content.Anode.{Anode}
use Rattle.tree_objects.specs.declared.content.Content.{Content}
use Rattle.tree_objects.specs.declared.content.Content.TheVariants.{Dir, File}
use Rattle.tree_objects.specs.declared.content.Object.{Object}
use Rattle.tree_objects.specs.declared.content.Unsaved.{Unsaved}
use Rattle.tree_objects.specs.declared.content.UnsavedLength.{UnsavedLength}

unfoldable pub host_line_of : Json → HostLine
host_line_of j = record {
  user = whole_of (part 0 j);
  limit = whole_of (part 1 j);
}

unfoldable pub roster_of : Json → Roster
roster_of j = record {
  users = list_of user_of (part 0 j);
  hosts = list_of host_line_of (part 1 j);
  capacity = list_of whole_of (part 2 j);
}

unfoldable pub unsaved_of : Json → Unsaved
unsaved_of j = record {
  at = whole_of (part 0 j);
  value = whole_of (part 1 j);
  writer = record { 0 = whole_of (part 2 j) };
}

unfoldable pub unsaved_length_of : Json → UnsavedLength
unsaved_length_of j = record {
  length = whole_of (part 0 j);
  writer = record { 0 = whole_of (part 1 j) };
}

unfoldable pub content_of : Json → Content
content_of j =
    if is_case (codes "dir") j then Dir (list_of entry_of (part 0 (held j))) (list_of (list_of access_entry_of) (part 1 (held j))) else
    File (list_of access_entry_of (part 0 (held j))) (letters_of (part 1 (held j))) (list_of unsaved_of (part 2 (held j))) (maybe_of unsaved_length_of (part 3 (held j)))

unfoldable pub object_of : Json → Object
object_of j = record {
  owner = letters_of (part 0 j);
  group = letters_of (part 1 j);
  content = content_of (part 2 j);
}

unfoldable pub anode_of : Json → Anode
anode_of j = record {
  unique = whole_of (part 0 j);
  object = maybe_of object_of (part 1 j);
}

unfoldable pub fileset_of : Json → Fileset
fileset_of j = record {
  server = record { 0 = whole_of (part 0 j) };
  id = record { 0 = whole_of (part 1 j) };
  name = letters_of (part 2 j);
  read_only = flag_of (part 3 j);
  objects = whole_of (part 4 j);
  moves = whole_of (part 5 j);
  anodes = list_of anode_of (part 6 j);
}

unfoldable pub room_of : Json → ServerRoom
room_of j = record {
  capacity = whole_of (part 0 j);
  next = whole_of (part 1 j);
}

unfoldable pub lock_of : Json → LockUse
lock_of j = record {
  host = record { 0 = whole_of (part 0 j) };
  label = letters_of (part 1 j);
  fid = fid_of (part 2 j);
  writing = flag_of (part 3 j);
  span = span_of (part 4 j);
}

unfoldable pub open_use_of : Json → OpenUse
open_use_of j = record {
  host = record { 0 = whole_of (part 0 j) };
  label = letters_of (part 1 j);
  fid = fid_of (part 2 j);
  kind = open_of (part 3 j);
}

unfoldable pub away_of : Json → Away
away_of j = record {
  server = record { 0 = whole_of (part 0 j) };
  fileset = record { 0 = whole_of (part 1 j) };
  name = letters_of (part 2 j);
  to = record { 0 = whole_of (part 3 j) };
  room_kept = flag_of (part 4 j);
}

unfoldable pub tree_of : Json → Tree
tree_of j = record {
  roster = roster_of (part 0 j);
  servers = list_of room_of (part 1 j);
  filesets = list_of fileset_of (part 2 j);
  away = list_of away_of (part 3 j);
  locks = list_of lock_of (part 4 j);
  opens = list_of open_use_of (part 5 j);
}

pub host_line_is : (x : HostLine) → TypedHostLine x → IsRead host_line_of host_line_json x
unfolding host_line_json host_line_of
host_line_is x t =
    let a0 = whole_is x.user t.0 in
    let a1 = whole_is x.limit t.1 in
    (rw (a0.0, a1.0), (a0.1, (a1.1, tt)))

pub roster_is : (x : Roster) → TypedRoster x → IsRead roster_of roster_json x
unfolding roster_json roster_of
roster_is x t =
    let a0 = list_is TypedUser user_of user_json user_is x.users t.0 in
    let a1 = list_is TypedHostLine host_line_of host_line_json host_line_is x.hosts t.1 in
    let a2 = list_is IsWhole whole_of whole whole_is x.capacity t.2 in
    (rw (a0.0, a1.0, a2.0), (a0.1, (a1.1, (a2.1, tt))))

pub unsaved_is : (x : Unsaved) → TypedUnsaved x → IsRead unsaved_of unsaved_json x
unfolding unsaved_json unsaved_of
unsaved_is x t =
    let a0 = whole_is x.at t.0 in
    let a1 = whole_is x.value t.1 in
    let a2 = whole_is x.writer.0 t.2 in
    (rw (a0.0, a1.0, a2.0), (a0.1, (a1.1, (a2.1, tt))))

pub unsaved_length_is : (x : UnsavedLength) → TypedUnsavedLength x → IsRead unsaved_length_of unsaved_length_json x
unfolding unsaved_length_json unsaved_length_of
unsaved_length_is x t =
    let a0 = whole_is x.length t.0 in
    let a1 = whole_is x.writer.0 t.1 in
    (rw (a0.0, a1.0), (a0.1, (a1.1, tt)))

pub unsaved_length_some : (x : UnsavedLength) → is_null (unsaved_length_json x) ≡ false
unfolding unsaved_length_json
unsaved_length_some x = refl

pub content_is : (x : Content) → TypedContent x → IsRead content_of content_json x
unfolding tagged content_json content_of
content_is (Dir entries lists) t =
    let a0 = list_is TypedDirEntry entry_of entry_json entry_is entries t.0 in
    let a1 = list_is (Each TypedAccessEntry) (list_of access_entry_of) (list access_entry_json) (list_is TypedAccessEntry access_entry_of access_entry_json access_entry_is) lists t.1 in
    (rw (a0.0, a1.0), ((a0.1, (a1.1, tt)), tt))
content_is (File entries kept unsaved len) t =
    let a0 = list_is TypedAccessEntry access_entry_of access_entry_json access_entry_is entries t.0 in
    let a1 = letters_is kept t.1 in
    let a2 = list_is TypedUnsaved unsaved_of unsaved_json unsaved_is unsaved t.2 in
    let a3 = maybe_is TypedUnsavedLength unsaved_length_of unsaved_length_json unsaved_length_is unsaved_length_some len t.3 in
    (rw (a0.0, a1.0, a2.0, a3.0), ((a0.1, (a1.1, (a2.1, (a3.1, tt)))), tt))

pub object_is : (x : Object) → TypedObject x → IsRead object_of object_json x
unfolding object_json object_of
object_is x t =
    let a0 = letters_is x.owner t.0 in
    let a1 = letters_is x.group t.1 in
    let a2 = content_is x.content t.2 in
    (rw (a0.0, a1.0, a2.0), (a0.1, (a1.1, (a2.1, tt))))

pub object_some : (x : Object) → is_null (object_json x) ≡ false
unfolding object_json
object_some x = refl

pub anode_is : (x : Anode) → TypedAnode x → IsRead anode_of anode_json x
unfolding anode_json anode_of
anode_is x t =
    let a0 = whole_is x.unique t.0 in
    let a1 = maybe_is TypedObject object_of object_json object_is object_some x.object t.1 in
    (rw (a0.0, a1.0), (a0.1, (a1.1, tt)))

pub fileset_is : (x : Fileset) → TypedFileset x → IsRead fileset_of fileset_json x
unfolding fileset_json fileset_of
fileset_is x t =
    let a0 = whole_is x.server.0 t.0 in
    let a1 = whole_is x.id.0 t.1 in
    let a2 = letters_is x.name t.2 in
    let a4 = whole_is x.objects t.3 in
    let a5 = whole_is x.moves t.4 in
    let a6 = list_is TypedAnode anode_of anode_json anode_is x.anodes t.5 in
    (rw (a0.0, a1.0, a2.0, a4.0, a5.0, a6.0), (a0.1, (a1.1, (a2.1, (tt, (a4.1, (a5.1, (a6.1, tt))))))))

pub room_is : (x : ServerRoom) → TypedServerRoom x → IsRead room_of room_json x
unfolding room_json room_of
room_is x t =
    let a0 = whole_is x.capacity t.0 in
    let a1 = whole_is x.next t.1 in
    (rw (a0.0, a1.0), (a0.1, (a1.1, tt)))

pub lock_is : (x : LockUse) → TypedLockUse x → IsRead lock_of lock_json x
unfolding lock_json lock_of
lock_is x t =
    let a0 = whole_is x.host.0 t.0 in
    let a1 = letters_is x.label t.1 in
    let a2 = fid_is x.fid t.2 in
    let a4 = span_is x.span in
    (rw (a0.0, a1.0, a2.0, a4.0), (a0.1, (a1.1, (a2.1, (tt, (a4.1, tt))))))

pub open_use_is : (x : OpenUse) → TypedOpenUse x → IsRead open_use_of open_use_json x
unfolding open_use_json open_use_of
open_use_is x t =
    let a0 = whole_is x.host.0 t.0 in
    let a1 = letters_is x.label t.1 in
    let a2 = fid_is x.fid t.2 in
    let a3 = open_is x.kind in
    (rw (a0.0, a1.0, a2.0, a3.0), (a0.1, (a1.1, (a2.1, (a3.1, tt)))))

pub away_is : (x : Away) → TypedAway x → IsRead away_of away_json x
unfolding away_json away_of
away_is x t =
    let a0 = whole_is x.server.0 t.0 in
    let a1 = whole_is x.fileset.0 t.1 in
    let a2 = letters_is x.name t.2 in
    let a3 = whole_is x.to.0 t.3 in
    (rw (a0.0, a1.0, a2.0, a3.0), (a0.1, (a1.1, (a2.1, (a3.1, (tt, tt))))))

pub tree_is : (x : Tree) → TypedTree x → IsRead tree_of tree_json x
unfolding tree_json tree_of
tree_is x t =
    let a0 = roster_is x.roster t.0 in
    let a1 = list_is TypedServerRoom room_of room_json room_is x.servers t.1 in
    let a2 = list_is TypedFileset fileset_of fileset_json fileset_is x.filesets t.2 in
    let a3 = list_is TypedAway away_of away_json away_is x.away t.3 in
    let a4 = list_is TypedLockUse lock_of lock_json lock_is x.locks t.4 in
    let a5 = list_is TypedOpenUse open_use_of open_use_json open_use_is x.opens t.5 in
    (rw (a0.0, a1.0, a2.0, a3.0, a4.0, a5.0), (a0.1, (a1.1, (a2.1, (a3.1, (a4.1, (a5.1, tt)))))))
