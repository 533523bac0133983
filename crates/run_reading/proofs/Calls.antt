-- Places, access lists, calls and replies, read back from JSON.
use Rattle.std.proofs.Common.{refl, codes, if◌then◌else◌}
use Rattle.base_types.specs.declared.access.AccessEntry.{AccessEntry}
use Rattle.base_types.specs.declared.access.Who.{Who}
use Rattle.base_types.specs.declared.access.Who.TheVariants.{
  Group,
  GroupObj,
  MaskObj,
  OtherObj,
  User as UserNamed,
  UserObj,
}
use Rattle.base_types.specs.declared.user.User.{User}
use Rattle.json.specs.Json.{Json}
use Rattle.message_json.specs.Calls.{
  access_entry_json,
  call_json,
  facts_json,
  place_json,
  refusal_json,
  reply_json,
  user_json,
  which_json,
  who_json,
}
use Rattle.message_json.specs.Values.{letters, tagged}
use Rattle.message_types.specs.Soundness.{Each}
use Rattle.run_reading.proofs.Forms.{
  IsRead,
  flag_of,
  held,
  is_case,
  letters_is,
  letters_of,
  list_is,
  list_of,
  part,
  whole_is,
  whole_of,
}
use Rattle.run_reading.proofs.Parts.{open_is, open_of}
use Rattle.run_reading.specs.Messages.{
  IsByte,
  TypedAccessEntry,
  TypedCall,
  TypedFacts,
  TypedPlace,
  TypedRefusal,
  TypedReply,
  TypedUser,
  TypedWho,
}
use Rattle.tree_calls.specs.declared.call.Call.{Call}
use Rattle.tree_calls.specs.declared.call.Call.TheVariants.{
  CloneFileset,
  CloseFile,
  Create,
  GetAcl,
  List as ListNames,
  Lock,
  MakeDir,
  MoveFileset,
  NewFileset,
  OpenFile,
  Read,
  Remove,
  Rename,
  SetAcl,
  Stat,
  Sync,
  Truncate,
  Unlock,
  Write,
}
use Rattle.tree_calls.specs.declared.place.Place.{Place}
use Rattle.tree_calls.specs.declared.place.Which.{Which}
use Rattle.tree_calls.specs.declared.place.Which.TheVariants.{Dirs, Files, Own}
use Rattle.tree_calls.specs.declared.reply.Facts.{Facts}
use Rattle.tree_calls.specs.declared.reply.Refusal.{Refusal}
use Rattle.tree_calls.specs.declared.reply.Reply.{Reply}
use Rattle.tree_calls.specs.declared.reply.Refusal.TheVariants as refusals
use Rattle.tree_calls.specs.declared.reply.Reply.TheVariants as replies

unfoldable pub user_of : Json → User
user_of j = record {
  name = letters_of (part 0 j);
  groups = list_of letters_of (part 1 j);
}

unfoldable pub who_of : Json → Who
who_of j =
    if is_case (codes "user_obj") j then UserObj else
    if is_case (codes "user") j then UserNamed (letters_of (held j)) else
    if is_case (codes "group_obj") j then GroupObj else
    if is_case (codes "group") j then Group (letters_of (held j)) else
    if is_case (codes "other_obj") j then OtherObj else
    MaskObj

unfoldable pub access_entry_of : Json → AccessEntry
access_entry_of j = record {
  who = who_of (part 0 j);
  rights = whole_of (part 1 j);
}

unfoldable pub place_of : Json → Place
place_of j = record {
  server = record { 0 = whole_of (part 0 j) };
  fileset = letters_of (part 1 j);
  path = list_of letters_of (part 2 j);
}

unfoldable pub which_of : Json → Which
which_of j =
    if is_case (codes "own") j then Own else
    if is_case (codes "files") j then Files else
    Dirs

unfoldable pub call_of : Json → Call
call_of j =
    if is_case (codes "new_fileset") j then NewFileset (record { 0 = whole_of (part 0 (held j)) }) (letters_of (part 1 (held j))) (whole_of (part 2 (held j))) (user_of (part 3 (held j))) else
    if is_case (codes "create") j then Create (place_of (part 0 (held j))) else
    if is_case (codes "make_dir") j then MakeDir (place_of (part 0 (held j))) else
    if is_case (codes "remove") j then Remove (place_of (part 0 (held j))) else
    if is_case (codes "rename") j then Rename (place_of (part 0 (held j))) (place_of (part 1 (held j))) else
    if is_case (codes "truncate") j then Truncate (place_of (part 0 (held j))) (whole_of (part 1 (held j))) else
    if is_case (codes "set_acl") j then SetAcl (place_of (part 0 (held j))) (which_of (part 1 (held j))) (list_of access_entry_of (part 2 (held j))) else
    if is_case (codes "clone_fileset") j then CloneFileset (record { 0 = whole_of (part 0 (held j)) }) (letters_of (part 1 (held j))) (letters_of (part 2 (held j))) else
    if is_case (codes "read") j then Read (place_of (part 0 (held j))) (whole_of (part 1 (held j))) (whole_of (part 2 (held j))) else
    if is_case (codes "write") j then Write (place_of (part 0 (held j))) (whole_of (part 1 (held j))) (letters_of (part 2 (held j))) else
    if is_case (codes "list") j then ListNames (place_of (part 0 (held j))) else
    if is_case (codes "stat") j then Stat (place_of (part 0 (held j))) else
    if is_case (codes "get_acl") j then GetAcl (place_of (part 0 (held j))) (which_of (part 1 (held j))) else
    if is_case (codes "sync") j then Sync (place_of (part 0 (held j))) else
    if is_case (codes "lock") j then Lock (letters_of (part 0 (held j))) (place_of (part 1 (held j))) (flag_of (part 2 (held j))) (whole_of (part 3 (held j))) (whole_of (part 4 (held j))) else
    if is_case (codes "unlock") j then Unlock (letters_of (part 0 (held j))) else
    if is_case (codes "open_file") j then OpenFile (letters_of (part 0 (held j))) (place_of (part 1 (held j))) (open_of (part 2 (held j))) else
    if is_case (codes "close_file") j then CloseFile (letters_of (part 0 (held j))) else
    MoveFileset (record { 0 = whole_of (part 0 (held j)) }) (letters_of (part 1 (held j))) (record { 0 = whole_of (part 2 (held j)) })

unfoldable pub refusal_of : Json → Refusal
refusal_of j =
    if is_case (codes "no-entry") j then refusals.NoEntry else
    if is_case (codes "not-dir") j then refusals.NotDir else
    if is_case (codes "is-dir") j then refusals.IsDir else
    if is_case (codes "exists") j then refusals.Exists else
    if is_case (codes "not-empty") j then refusals.NotEmpty else
    if is_case (codes "denied") j then refusals.Denied (whole_of (held j)) else
    if is_case (codes "too-big") j then refusals.TooBig else
    if is_case (codes "too-many") j then refusals.TooMany else
    if is_case (codes "no-room") j then refusals.NoRoom else
    if is_case (codes "read-only") j then refusals.ReadOnly else
    if is_case (codes "locked") j then refusals.Locked else
    if is_case (codes "open-conflict") j then refusals.OpenConflict else
    if is_case (codes "in-use") j then refusals.InUse else
    if is_case (codes "loop") j then refusals.Loop else
    if is_case (codes "no-fileset") j then refusals.NoFileset else
    if is_case (codes "cross-fileset") j then refusals.CrossFileset else
    if is_case (codes "not-locked") j then refusals.NotLocked else
    if is_case (codes "not-opened") j then refusals.NotOpened else
    if is_case (codes "already-locked") j then refusals.AlreadyLocked else
    if is_case (codes "already-opened") j then refusals.AlreadyOpened else
    refusals.NotHome

unfoldable pub facts_of : Json → Facts
facts_of j = record {
  dir = flag_of (part 0 j);
  length = whole_of (part 1 j);
  owner = letters_of (part 2 j);
  rights = whole_of (part 3 j);
}

unfoldable pub reply_of : Json → Reply
reply_of j =
    if is_case (codes "ok") j then replies.Ok else
    if is_case (codes "bytes") j then replies.Bytes (letters_of (held j)) else
    if is_case (codes "names") j then replies.Names (list_of letters_of (held j)) else
    if is_case (codes "facts") j then replies.Facts (facts_of (held j)) else
    if is_case (codes "access") j then replies.Access (list_of access_entry_of (held j)) else
    replies.Refused (refusal_of (held j))

pub user_is : (x : User) → TypedUser x → IsRead user_of user_json x
unfolding user_json user_of
user_is x t =
    let a0 = letters_is x.name t.0 in
    let a1 = list_is (Each IsByte) letters_of letters letters_is x.groups t.1 in
    (rw (a0.0, a1.0), (a0.1, (a1.1, tt)))

pub who_is : (x : Who) → TypedWho x → IsRead who_of who_json x
unfolding tagged who_json who_of
who_is UserObj t = (refl, tt)
who_is (UserNamed it) t =
    let a0 = letters_is it t in
    (rw a0.0, (a0.1, tt))
who_is GroupObj t = (refl, tt)
who_is (Group it) t =
    let a0 = letters_is it t in
    (rw a0.0, (a0.1, tt))
who_is OtherObj t = (refl, tt)
who_is MaskObj t = (refl, tt)

pub access_entry_is : (x : AccessEntry) → TypedAccessEntry x → IsRead access_entry_of access_entry_json x
unfolding access_entry_json access_entry_of
access_entry_is x t =
    let a0 = who_is x.who t.0 in
    let a1 = whole_is x.rights t.1 in
    (rw (a0.0, a1.0), (a0.1, (a1.1, tt)))

pub place_is : (x : Place) → TypedPlace x → IsRead place_of place_json x
unfolding place_json place_of
place_is x t =
    let a0 = whole_is x.server.0 t.0 in
    let a1 = letters_is x.fileset t.1 in
    let a2 = list_is (Each IsByte) letters_of letters letters_is x.path t.2 in
    (rw (a0.0, a1.0, a2.0), (a0.1, (a1.1, (a2.1, tt))))

pub which_is : (x : Which) → IsRead which_of which_json x
unfolding tagged which_json which_of
which_is Own = (refl, tt)
which_is Files = (refl, tt)
which_is Dirs = (refl, tt)

pub call_is : (x : Call) → TypedCall x → IsRead call_of call_json x
unfolding tagged call_json call_of
call_is (NewFileset server name objects owner) t =
    let a0 = whole_is server.0 t.0 in
    let a1 = letters_is name t.1 in
    let a2 = whole_is objects t.2 in
    let a3 = user_is owner t.3 in
    (rw (a0.0, a1.0, a2.0, a3.0), ((a0.1, (a1.1, (a2.1, (a3.1, tt)))), tt))
call_is (Create place) t =
    let a0 = place_is place t in
    (rw a0.0, ((a0.1, tt), tt))
call_is (MakeDir place) t =
    let a0 = place_is place t in
    (rw a0.0, ((a0.1, tt), tt))
call_is (Remove place) t =
    let a0 = place_is place t in
    (rw a0.0, ((a0.1, tt), tt))
call_is (Rename from to) t =
    let a0 = place_is from t.0 in
    let a1 = place_is to t.1 in
    (rw (a0.0, a1.0), ((a0.1, (a1.1, tt)), tt))
call_is (Truncate place len) t =
    let a0 = place_is place t.0 in
    let a1 = whole_is len t.1 in
    (rw (a0.0, a1.0), ((a0.1, (a1.1, tt)), tt))
call_is (SetAcl place which entries) t =
    let a0 = place_is place t.0 in
    let a1 = which_is which in
    let a2 = list_is TypedAccessEntry access_entry_of access_entry_json access_entry_is entries t.1 in
    (rw (a0.0, a1.0, a2.0), ((a0.1, (a1.1, (a2.1, tt))), tt))
call_is (CloneFileset server fileset new) t =
    let a0 = whole_is server.0 t.0 in
    let a1 = letters_is fileset t.1 in
    let a2 = letters_is new t.2 in
    (rw (a0.0, a1.0, a2.0), ((a0.1, (a1.1, (a2.1, tt))), tt))
call_is (Read place from len) t =
    let a0 = place_is place t.0 in
    let a1 = whole_is from t.1 in
    let a2 = whole_is len t.2 in
    (rw (a0.0, a1.0, a2.0), ((a0.1, (a1.1, (a2.1, tt))), tt))
call_is (Write place from bytes) t =
    let a0 = place_is place t.0 in
    let a1 = whole_is from t.1 in
    let a2 = letters_is bytes t.2 in
    (rw (a0.0, a1.0, a2.0), ((a0.1, (a1.1, (a2.1, tt))), tt))
call_is (ListNames place) t =
    let a0 = place_is place t in
    (rw a0.0, ((a0.1, tt), tt))
call_is (Stat place) t =
    let a0 = place_is place t in
    (rw a0.0, ((a0.1, tt), tt))
call_is (GetAcl place which) t =
    let a0 = place_is place t in
    let a1 = which_is which in
    (rw (a0.0, a1.0), ((a0.1, (a1.1, tt)), tt))
call_is (Sync place) t =
    let a0 = place_is place t in
    (rw a0.0, ((a0.1, tt), tt))
call_is (Lock label place writing from len) t =
    let a0 = letters_is label t.0 in
    let a1 = place_is place t.1 in
    let a3 = whole_is from t.2 in
    let a4 = whole_is len t.3 in
    (rw (a0.0, a1.0, a3.0, a4.0), ((a0.1, (a1.1, (tt, (a3.1, (a4.1, tt))))), tt))
call_is (Unlock label) t =
    let a0 = letters_is label t in
    (rw a0.0, ((a0.1, tt), tt))
call_is (OpenFile label place kind) t =
    let a0 = letters_is label t.0 in
    let a1 = place_is place t.1 in
    let a2 = open_is kind in
    (rw (a0.0, a1.0, a2.0), ((a0.1, (a1.1, (a2.1, tt))), tt))
call_is (CloseFile label) t =
    let a0 = letters_is label t in
    (rw a0.0, ((a0.1, tt), tt))
call_is (MoveFileset server fileset to) t =
    let a0 = whole_is server.0 t.0 in
    let a1 = letters_is fileset t.1 in
    let a2 = whole_is to.0 t.2 in
    (rw (a0.0, a1.0, a2.0), ((a0.1, (a1.1, (a2.1, tt))), tt))

pub refusal_is : (x : Refusal) → TypedRefusal x → IsRead refusal_of refusal_json x
unfolding tagged refusal_json refusal_of
refusal_is refusals.NoEntry t = (refl, tt)
refusal_is refusals.NotDir t = (refl, tt)
refusal_is refusals.IsDir t = (refl, tt)
refusal_is refusals.Exists t = (refl, tt)
refusal_is refusals.NotEmpty t = (refl, tt)
refusal_is (refusals.Denied it) t =
    let a0 = whole_is it t in
    (rw a0.0, (a0.1, tt))
refusal_is refusals.TooBig t = (refl, tt)
refusal_is refusals.TooMany t = (refl, tt)
refusal_is refusals.NoRoom t = (refl, tt)
refusal_is refusals.ReadOnly t = (refl, tt)
refusal_is refusals.Locked t = (refl, tt)
refusal_is refusals.OpenConflict t = (refl, tt)
refusal_is refusals.InUse t = (refl, tt)
refusal_is refusals.Loop t = (refl, tt)
refusal_is refusals.NoFileset t = (refl, tt)
refusal_is refusals.CrossFileset t = (refl, tt)
refusal_is refusals.NotLocked t = (refl, tt)
refusal_is refusals.NotOpened t = (refl, tt)
refusal_is refusals.AlreadyLocked t = (refl, tt)
refusal_is refusals.AlreadyOpened t = (refl, tt)
refusal_is refusals.NotHome t = (refl, tt)

pub facts_is : (x : Facts) → TypedFacts x → IsRead facts_of facts_json x
unfolding facts_json facts_of
facts_is x t =
    let a1 = whole_is x.length t.0 in
    let a2 = letters_is x.owner t.1 in
    let a3 = whole_is x.rights t.2 in
    (rw (a1.0, a2.0, a3.0), (tt, (a1.1, (a2.1, (a3.1, tt)))))

pub reply_is : (x : Reply) → TypedReply x → IsRead reply_of reply_json x
unfolding tagged reply_json reply_of
reply_is replies.Ok t = (refl, tt)
reply_is (replies.Bytes it) t =
    let a0 = letters_is it t in
    (rw a0.0, (a0.1, tt))
reply_is (replies.Names it) t =
    let a0 = list_is (Each IsByte) letters_of letters letters_is it t in
    (rw a0.0, (a0.1, tt))
reply_is (replies.Facts it) t =
    let a0 = facts_is it t in
    (rw a0.0, (a0.1, tt))
reply_is (replies.Access it) t =
    let a0 = list_is TypedAccessEntry access_entry_of access_entry_json access_entry_is it t in
    (rw a0.0, (a0.1, tt))
reply_is (replies.Refused it) t =
    let a0 = refusal_is it t in
    (rw a0.0, (a0.1, tt))
