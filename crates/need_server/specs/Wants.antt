-- The tokens that a server wants for the Changes that it decides.
use Rattle.std.specs.Prelude.{
  ℕ,
  ◌+◌,
  nat_lt,
  Bool,
  true,
  false,
  not,
  if◌then◌else◌,
  List,
  [],
  ◌∷◌,
  ◌++◌,
  Option,
  Some,
  None,
  Result,
  Ok,
}
use Rattle.std.specs.List.{flat_map}
use Rattle.std.specs.Option.{option_map_or}
use Rattle.base_types.specs.Outcomes.{and_then, either}
use Rattle.base_types.specs.declared.ids.Fid.{Fid}
use Rattle.base_types.specs.declared.ids.OpenKind.TheVariants.{Exclusive}
use Rattle.base_types.specs.declared.ids.ServerId.{ServerId}
use Rattle.base_types.specs.declared.limits.TheConstants.{FILE_BYTES_MAX}
use Rattle.base_types.specs.declared.user.User.{User}
use Rattle.tree_calls.specs.declared.call.Call.{Call}
use Rattle.tree_calls.specs.declared.call.Call.TheVariants.{
  NewFileset,
  Create,
  MakeDir,
  Remove,
  Rename,
  Truncate,
  SetAcl,
}
use Rattle.tree_calls.specs.declared.call.Call.TheVariants.{
  CloneFileset,
  Read,
  Write,
  List as ListNames,
  Stat,
  GetAcl,
  Sync,
}
use Rattle.tree_calls.specs.declared.call.Call.TheVariants.{Lock, Unlock, OpenFile, CloseFile, MoveFileset}
use Rattle.tree_calls.specs.declared.reply.Refusal.{Refusal}
use Rattle.tree_calls.specs.declared.reply.Refusal.TheVariants.{TooBig}
use Rattle.tree_objects.specs.declared.content.Anode.{Anode}
use Rattle.tree_objects.specs.declared.content.Object.{Object}
use Rattle.tree_objects.specs.Objects.{is_dir}
use Rattle.tree_objects.specs.Spans.{span_between, whole}
use Rattle.tree_filesets.specs.declared.fileset.Fileset.{Fileset}
use Rattle.tree_filesets.specs.Changing.{write_target, set_access_target}
use Rattle.tree_filesets.specs.Checks.{unless}
use Rattle.tree_filesets.specs.Removal.{remove_target}
use Rattle.tree_filesets.specs.Renaming.{rename_target}
use Rattle.tree_filesets.specs.Uses.{lock_target, open_target}
use Rattle.tree_answers.specs.declared.tree.Tree.{Tree}
use Rattle.tree_answers.specs.Finding.{fileset_named, same_fileset}
use Rattle.tree_answers.specs.Founding.{clone_source}
use Rattle.tree_answers.specs.Moving.{move_source}
use Rattle.tree_laws.specs.Fates.{creation}
use Rattle.tree_laws.specs.Losses.{use_of}
use Rattle.token_types.specs.declared.token.Kind.TheVariants.{Bytes, Status, Lock as LockKind, Opening}
use Rattle.token_types.specs.declared.token.Need.{Need}
use Rattle.need_host.specs.Questions.{fileset_of}

-- the status and all bytes of a file, or the status and the entries of a directory
abbrev pub all_of : Bool → Fid → List Need
all_of update fid = record { fid = fid; kind = Status update } ∷ record { fid = fid; kind = Bytes update whole } ∷ []

-- what no lock and no open file goes with
abbrev pub every_use_of : Fid → List Need
every_use_of fid =
    record { fid = fid; kind = LockKind true whole } ∷ record { fid = fid; kind = Opening Exclusive } ∷ []

-- the objects of a fileset that pass a test: what stands at its anodes from one on
abbrev pub objects_from : (Object → Bool) → Fileset → ℕ → List Anode → List Fid
objects_from test fileset at [] = []
objects_from test fileset at (anode ∷ anodes) =
    if option_map_or test anode.object false then use_of fileset at ∷ objects_from test fileset (at + 1) anodes
    else objects_from test fileset (at + 1) anodes

abbrev pub files_of : Fileset → List Fid
files_of fileset = objects_from (λ object. not (is_dir object.content)) fileset 1 fileset.anodes

abbrev pub all_objects_of : Fileset → List Fid
all_objects_of fileset = objects_from (λ object. true) fileset 1 fileset.anodes

-- what is wanted for what checks find; for a call that they refuse nothing is
abbrev pub want_for : {A : Type 0} → Result A Refusal → (A → List Need) → List Need
want_for checks needs = either checks needs (λ refusal. [])

-- Create, MakeDir: the parent. Remove: the parent, and the object with every use of it. Rename: both parents. Truncate:
-- the file. SetAcl: the status of the object. Lock, OpenFile: the exact lock, or open, which is the host's own want.
unfoldable pub want_in : Fileset → User → Call → List Need
want_in fileset user (Create place) =
    want_for (creation fileset false user place.path) (λ (parent, entry, nature). all_of true (use_of fileset parent))
want_in fileset user (MakeDir place) =
    want_for (creation fileset true user place.path) (λ (parent, entry, nature). all_of true (use_of fileset parent))
want_in fileset user (Remove place) =
    want_for (remove_target fileset (λ fid. false) user place.path) (λ (parent, name, anode).
    all_of true (use_of fileset parent) ++ all_of true (use_of fileset anode) ++ every_use_of (use_of fileset anode))
want_in fileset user (Rename from to) =
    if same_fileset from to
    then want_for (rename_target fileset user from.path to.path) (λ move.
    all_of true (use_of fileset move.from) ++ all_of true (use_of fileset move.to))
    else []
want_in fileset user (Truncate place len) =
    want_for (write_target fileset user place.path len) (λ anode. all_of true (use_of fileset anode))
want_in fileset user (SetAcl place which list) =
    want_for (set_access_target fileset user place.path which) (λ anode.
    record { fid = use_of fileset anode; kind = Status true } ∷ [])
want_in fileset user (Lock label place writing from len) =
    want_for
    (and_then (lock_target fileset user place.path writing) (λ fid.
    unless (nat_lt FILE_BYTES_MAX (from + len)) TooBig (Ok fid)))
    (λ fid. record { fid = fid; kind = LockKind writing (span_between from (from + len)) } ∷ [])
want_in fileset user (OpenFile label place kind) =
    want_for (open_target fileset user place.path kind) (λ fid. record { fid = fid; kind = Opening kind } ∷ [])
want_in fileset user (NewFileset server name objects owner) = []
want_in fileset user (CloneFileset server source new) = []
want_in fileset user (MoveFileset server name to) = []
want_in fileset user (Read place from len) = []
want_in fileset user (Write place from bytes) = []
want_in fileset user (ListNames place) = []
want_in fileset user (Stat place) = []
want_in fileset user (GetAcl place which) = []
want_in fileset user (Sync place) = []
want_in fileset user (Unlock label) = []
want_in fileset user (CloseFile label) = []

abbrev pub want_named : Tree → User → Call → Option (ServerId × List ℕ) → List Need
want_named tree user call None = []
want_named tree user call (Some (server, name)) =
    want_for (fileset_named tree server name) (λ fileset. want_in fileset user call)

-- What is wanted for a call in a tree, as it is kept. CloneFileset: each file of the source, for reading. MoveFileset:
-- each object, with every use of it. A new fileset takes no want.
unfoldable pub want : Tree → User → Call → List Need
want tree user (CloneFileset server source new) =
    want_for (clone_source tree user server source) (λ fileset. flat_map (all_of false) (files_of fileset))
want tree user (MoveFileset server name to) =
    want_for (move_source tree user server name) (λ (place, fileset).
    flat_map (λ fid. all_of true fid ++ every_use_of fid) (all_objects_of fileset))
want tree user call = want_named tree user call (fileset_of call)
