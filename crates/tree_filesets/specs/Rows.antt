-- The call table of one fileset.
use Rattle.std.specs.Prelude.{Bool}
use Rattle.base_types.specs.declared.ids.Fid.{Fid}
use Rattle.base_types.specs.declared.ids.HostId.{HostId}
use Rattle.base_types.specs.declared.user.User.{User}
use Rattle.tree_calls.specs.declared.call.Call.{Call}
use Rattle.tree_calls.specs.declared.call.Call.TheVariants.{
  NewFileset,
  Create,
  MakeDir,
  Remove,
  Rename,
  Truncate,
  SetAcl,
  CloneFileset,
  Read,
  Write,
  List as ListNames,
  Stat,
  GetAcl,
  Sync,
  Lock,
  Unlock,
  OpenFile,
  CloseFile,
  MoveFileset,
}
use Rattle.tree_calls.specs.declared.reply.Refusal.TheVariants.{NoFileset}
use Rattle.tree_filesets.specs.declared.creating.NewObject.TheVariants.{EmptyFile, EmptyDirectory}
use Rattle.tree_filesets.specs.declared.fileset.Fileset.{Fileset}
use Rattle.tree_filesets.specs.Answers.{Answered, refused, unchanged}
use Rattle.tree_filesets.specs.Changing.{write_answer, truncate_answer, sync_answer, set_access_answer}
use Rattle.tree_filesets.specs.Creation.{create_answer}
use Rattle.tree_filesets.specs.Removal.{remove_answer}
use Rattle.tree_filesets.specs.Renaming.{rename_answer}
use Rattle.tree_filesets.specs.Telling.{read_reply, list_reply, stat_reply, access_reply}

-- the answer to a call whose places are in this fileset, of a user at a host, while some objects are locked or open;
-- calls that are on no place of one fileset are none of its
unfoldable pub fileset_answer : Fileset → (Fid → Bool) → HostId → User → Call → Answered
fileset_answer fileset in_use host user (Create place) = create_answer fileset EmptyFile user place.path
fileset_answer fileset in_use host user (MakeDir place) = create_answer fileset EmptyDirectory user place.path
fileset_answer fileset in_use host user (Remove place) = remove_answer fileset in_use user place.path
fileset_answer fileset in_use host user (Rename from to) = rename_answer fileset user from.path to.path
fileset_answer fileset in_use host user (Truncate place len) = truncate_answer fileset user place.path len
fileset_answer fileset in_use host user (SetAcl place which list) = set_access_answer fileset user place.path which list
fileset_answer fileset in_use host user (Read place from len) =
    unchanged fileset (read_reply fileset user place.path from len)
fileset_answer fileset in_use host user (Write place from bytes) = write_answer fileset host user place.path from bytes
fileset_answer fileset in_use host user (ListNames place) = unchanged fileset (list_reply fileset user place.path)
fileset_answer fileset in_use host user (Stat place) = unchanged fileset (stat_reply fileset user place.path)
fileset_answer fileset in_use host user (GetAcl place which) =
    unchanged fileset (access_reply fileset user place.path which)
fileset_answer fileset in_use host user (Sync place) = sync_answer fileset host user place.path
fileset_answer fileset in_use host user (NewFileset server name objects owner) = refused fileset NoFileset
fileset_answer fileset in_use host user (CloneFileset server source new) = refused fileset NoFileset
fileset_answer fileset in_use host user (MoveFileset server name to) = refused fileset NoFileset
fileset_answer fileset in_use host user (Lock label place writing from len) = refused fileset NoFileset
fileset_answer fileset in_use host user (Unlock label) = refused fileset NoFileset
fileset_answer fileset in_use host user (OpenFile label place kind) = refused fileset NoFileset
fileset_answer fileset in_use host user (CloseFile label) = refused fileset NoFileset
