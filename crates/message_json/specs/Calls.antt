-- Places, access lists, calls and replies.
use Rattle.std.specs.Prelude.{ℕ, Bool, List, codes}
use Rattle.json.specs.Json.{Json, boolean, string, object, no_members, member}
use Rattle.base_types.specs.declared.access.AccessEntry.{AccessEntry}
use Rattle.base_types.specs.declared.access.Who.{Who}
use Rattle.base_types.specs.declared.access.Who.TheVariants.{
  UserObj,
  User as UserNamed,
  GroupObj,
  Group,
  OtherObj,
  MaskObj,
}
use Rattle.base_types.specs.declared.user.User.{User}
use Rattle.tree_calls.specs.declared.call.Call.{Call}
use Rattle.tree_calls.specs.declared.call.Call.TheVariants.{
  NewFileset,
  Create,
  MakeDir,
  Remove,
  Rename,
  Truncate,
  SetAcl,
  CloneFileset,
  Read,
  Write,
  List as ListNames,
  Stat,
  GetAcl,
  Sync,
  Lock,
  Unlock,
  OpenFile,
  CloseFile,
  MoveFileset,
}
use Rattle.tree_calls.specs.declared.place.Place.{Place}
use Rattle.tree_calls.specs.declared.place.Which.{Which}
use Rattle.tree_calls.specs.declared.place.Which.TheVariants.{Own, Files, Dirs}
use Rattle.tree_calls.specs.declared.reply.Facts.{Facts}
use Rattle.tree_calls.specs.declared.reply.Refusal.{Refusal}
use Rattle.tree_calls.specs.declared.reply.Refusal.TheVariants as refusals
use Rattle.tree_calls.specs.declared.reply.Reply.{Reply}
use Rattle.tree_calls.specs.declared.reply.Reply.TheVariants.{Ok as Done, Bytes, Names, Facts as Told, Access, Refused}
use Rattle.message_json.specs.Parts.{open_json}
use Rattle.message_json.specs.Values.{whole, letters, list, tagged}

-- who calls
unfoldable pub user_json : User → Json
user_json user = object
    (member (codes "name") (letters user.name)
    (member (codes "groups") (list letters user.groups) no_members))

-- whom an entry of an access list speaks of
unfoldable pub who_json : Who → Json
who_json UserObj = string (codes "user_obj")
who_json (UserNamed name) = tagged (codes "user") (letters name)
who_json GroupObj = string (codes "group_obj")
who_json (Group name) = tagged (codes "group") (letters name)
who_json OtherObj = string (codes "other_obj")
who_json MaskObj = string (codes "mask_obj")

-- Rights are a number, their sum: reading 1, writing 2, executing 4, control 8, inserting 16, deleting 32.
unfoldable pub access_entry_json : AccessEntry → Json
access_entry_json entry = object
    (member (codes "who") (who_json entry.who)
    (member (codes "rights") (whole entry.rights) no_members))

abbrev pub access_json : List AccessEntry → Json
access_json entries = list access_entry_json entries

unfoldable pub place_json : Place → Json
place_json place = object
    (member (codes "server") (whole place.server.0)
    (member (codes "fileset") (letters place.fileset)
    (member (codes "path") (list letters place.path) no_members)))

unfoldable pub which_json : Which → Json
which_json Own = string (codes "own")
which_json Files = string (codes "files")
which_json Dirs = string (codes "dirs")

-- a call about a place alone
abbrev pub placed : List ℕ → Place → Json
placed name place = tagged name (object (member (codes "place") (place_json place) no_members))

-- a call about a label alone
abbrev pub labelled : List ℕ → List ℕ → Json
labelled name label = tagged name (object (member (codes "label") (letters label) no_members))

-- the members of a new fileset, of a write, and of a lock
abbrev pub new_fileset_json : ℕ → List ℕ → ℕ → User → Json
new_fileset_json server name objects owner = tagged (codes "new_fileset") (object
    (member (codes "server") (whole server)
    (member (codes "name") (letters name)
    (member (codes "objects") (whole objects)
    (member (codes "owner") (user_json owner) no_members)))))

abbrev pub write_json : Place → ℕ → List ℕ → Json
write_json place from bytes = tagged (codes "write") (object
    (member (codes "place") (place_json place)
    (member (codes "from") (whole from)
    (member (codes "bytes") (letters bytes) no_members))))

abbrev pub lock_json : List ℕ → Place → Bool → ℕ → ℕ → Json
lock_json label place writing from len = tagged (codes "lock") (object
    (member (codes "label") (letters label)
    (member (codes "place") (place_json place)
    (member (codes "writing") (boolean writing)
    (member (codes "from") (whole from)
    (member (codes "len") (whole len) no_members))))))

unfoldable pub call_json : Call → Json
call_json (NewFileset server name objects owner) = new_fileset_json server.0 name objects owner
call_json (Create place) = placed (codes "create") place
call_json (MakeDir place) = placed (codes "make_dir") place
call_json (Remove place) = placed (codes "remove") place
call_json (Rename from to) = tagged (codes "rename") (object
    (member (codes "from") (place_json from)
    (member (codes "to") (place_json to) no_members)))
call_json (Truncate place len) = tagged (codes "truncate") (object
    (member (codes "place") (place_json place)
    (member (codes "length") (whole len) no_members)))
call_json (SetAcl place which entries) = tagged (codes "set_acl") (object
    (member (codes "place") (place_json place)
    (member (codes "which") (which_json which)
    (member (codes "list") (access_json entries) no_members))))
call_json (CloneFileset server fileset new) = tagged (codes "clone_fileset") (object
    (member (codes "server") (whole server.0)
    (member (codes "fileset") (letters fileset)
    (member (codes "new") (letters new) no_members))))
call_json (Read place from len) = tagged (codes "read") (object
    (member (codes "place") (place_json place)
    (member (codes "from") (whole from)
    (member (codes "len") (whole len) no_members))))
call_json (Write place from bytes) = write_json place from bytes
call_json (ListNames place) = placed (codes "list") place
call_json (Stat place) = placed (codes "stat") place
call_json (GetAcl place which) = tagged (codes "get_acl") (object
    (member (codes "place") (place_json place)
    (member (codes "which") (which_json which) no_members)))
call_json (Sync place) = placed (codes "sync") place
call_json (Lock label place writing from len) = lock_json label place writing from len
call_json (Unlock label) = labelled (codes "unlock") label
call_json (OpenFile label place kind) = tagged (codes "open_file") (object
    (member (codes "label") (letters label)
    (member (codes "place") (place_json place)
    (member (codes "kind") (open_json kind) no_members))))
call_json (CloseFile label) = labelled (codes "close_file") label
call_json (MoveFileset server fileset to) = tagged (codes "move_fileset") (object
    (member (codes "server") (whole server.0)
    (member (codes "fileset") (letters fileset)
    (member (codes "to") (whole to.0) no_members))))

-- why a call is refused, in the words of the text form
unfoldable pub refusal_json : Refusal → Json
refusal_json refusals.NoEntry = string (codes "no-entry")
refusal_json refusals.NotDir = string (codes "not-dir")
refusal_json refusals.IsDir = string (codes "is-dir")
refusal_json refusals.Exists = string (codes "exists")
refusal_json refusals.NotEmpty = string (codes "not-empty")
refusal_json (refusals.Denied rights) = tagged (codes "denied") (whole rights)
refusal_json refusals.TooBig = string (codes "too-big")
refusal_json refusals.TooMany = string (codes "too-many")
refusal_json refusals.NoRoom = string (codes "no-room")
refusal_json refusals.ReadOnly = string (codes "read-only")
refusal_json refusals.Locked = string (codes "locked")
refusal_json refusals.OpenConflict = string (codes "open-conflict")
refusal_json refusals.InUse = string (codes "in-use")
refusal_json refusals.Loop = string (codes "loop")
refusal_json refusals.NoFileset = string (codes "no-fileset")
refusal_json refusals.CrossFileset = string (codes "cross-fileset")
refusal_json refusals.NotLocked = string (codes "not-locked")
refusal_json refusals.NotOpened = string (codes "not-opened")
refusal_json refusals.AlreadyLocked = string (codes "already-locked")
refusal_json refusals.AlreadyOpened = string (codes "already-opened")
refusal_json refusals.NotHome = string (codes "not-home")

unfoldable pub facts_json : Facts → Json
facts_json facts = object
    (member (codes "dir") (boolean facts.dir)
    (member (codes "length") (whole facts.length)
    (member (codes "owner") (letters facts.owner)
    (member (codes "rights") (whole facts.rights) no_members))))

unfoldable pub reply_json : Reply → Json
reply_json Done = string (codes "ok")
reply_json (Bytes bytes) = tagged (codes "bytes") (letters bytes)
reply_json (Names names) = tagged (codes "names") (list letters names)
reply_json (Told facts) = tagged (codes "facts") (facts_json facts)
reply_json (Access entries) = tagged (codes "access") (access_json entries)
reply_json (Refused refusal) = tagged (codes "refused") (refusal_json refusal)
