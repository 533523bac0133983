-- Worked wants: what is wanted for some calls in small trees.
use Rattle.std.specs.Prelude.{◌≡◌, true, false, List, [], ◌∷◌, ◌++◌, codes}
use Rattle.base_types.specs.declared.ids.Fid.{Fid}
use Rattle.base_types.specs.declared.ids.OpenKind.TheVariants.{Writing, Exclusive}
use Rattle.tree_calls.specs.declared.call.Call.TheVariants.{
  NewFileset,
  Create,
  MakeDir,
  Remove,
  Rename,
  Truncate,
  SetAcl,
}
use Rattle.tree_calls.specs.declared.call.Call.TheVariants.{CloneFileset, Write, Lock, OpenFile, MoveFileset}
use Rattle.tree_calls.specs.declared.place.Which.TheVariants.{Own}
use Rattle.tree_objects.specs.Spans.{span_between, whole}
use Rattle.tree_answers.specs.Worked.{ann, bob, server, home_with_note, in_home, in_copy, note, folder, shared_list}
use Rattle.token_types.specs.declared.token.Kind.TheVariants.{Bytes, Status, Lock as LockKind, Opening}
use Rattle.token_types.specs.declared.token.Need.{Need}
use Rattle.need_host.specs.Worked.{of, root, note_fid, second, moved_home}
use Rattle.need_server.specs.Wants.{want}

-- status and all bytes of an object for update, and each lock and open file of it
abbrev pub all_for_update : Fid → List Need
all_for_update fid = of fid (Status true) ∷ of fid (Bytes true whole) ∷ []

abbrev pub every_use : Fid → List Need
every_use fid = of fid (LockKind true whole) ∷ of fid (Opening Exclusive) ∷ []

pub record WorkedWants : Type 0 where
  -- a new object: its directory
  pub creates : want home_with_note ann (Create (in_home folder)) ≡ all_for_update root
  pub makes : want home_with_note ann (MakeDir (in_home folder)) ≡ all_for_update root
  -- an object that goes: its directory and itself, locked and open by nobody
  pub removes : want home_with_note ann (Remove (in_home note))
      ≡ all_for_update root ++ all_for_update note_fid ++ every_use note_fid
  -- one that gets another name: both directories
  pub renames : want home_with_note ann (Rename (in_home note) (in_home folder))
      ≡ all_for_update root ++ all_for_update root
  -- a new length: the file; a new list: the status alone
  pub truncates : want home_with_note ann (Truncate (in_home note) 0) ≡ all_for_update note_fid
  pub lists : want home_with_note ann (SetAcl (in_home note) Own shared_list) ≡ of note_fid (Status true) ∷ []
  -- a clone: the files of its source, for reading
  pub clones : want home_with_note ann (CloneFileset server (codes "home") (codes "copy"))
      ≡ of note_fid (Status false) ∷ of note_fid (Bytes false whole) ∷ []
  -- a fileset that moves: each object, locked and open by nobody
  pub moves : want home_with_note ann (MoveFileset server (codes "home") second)
      ≡ all_for_update root ++ every_use root ++ all_for_update note_fid ++ every_use note_fid
  -- a lock, an open file: exactly that
  pub locks : want home_with_note ann (Lock (codes "w") (in_home note) true 0 2)
      ≡ of note_fid (LockKind true (span_between 0 2)) ∷ []
  pub opens : want home_with_note ann (OpenFile (codes "o") (in_home note) Writing) ≡ of note_fid (Opening Writing) ∷ []
  -- nothing for a new fileset, for a call that a host answers, and for what is refused
  pub founds : want home_with_note ann (NewFileset server (codes "new") 3 ann) ≡ []
  pub writes : want home_with_note ann (Write (in_home note) 0 (codes "a")) ≡ []
  pub denied : want home_with_note bob (Remove (in_home note)) ≡ []
  pub crossing : want home_with_note ann (Rename (in_home note) (in_copy note)) ≡ []
  -- a fileset that has moved is wanted under its old place
  pub moved : want moved_home ann (Truncate (in_home note) 0) ≡ all_for_update note_fid
