-- A call that one fileset decides alone is answered by that fileset.
use Rattle.std.specs.Prelude.{slice_get, OnOk}
use Rattle.std.proofs.Common.{◌≡◌, ◌<◌, ℕ, Some, Result, Ok, Err, length, get_or, refl, ap, ◌∙◌}
use Rattle.base_types.specs.declared.ids.HostId.{HostId}
use Rattle.base_types.specs.declared.user.User.{User}
use Rattle.tree_calls.specs.Rosters.{user_of}
use Rattle.tree_calls.specs.declared.call.Call.{Call}
use Rattle.tree_calls.specs.declared.call.Call.TheVariants.{
  NewFileset,
  Create,
  MakeDir,
  Remove,
  Rename,
  Truncate,
  SetAcl,
  CloneFileset,
  Read,
  Write,
  List as ListNames,
  Stat,
  GetAcl,
  Sync,
  Lock,
  Unlock,
  OpenFile,
  CloseFile,
  MoveFileset,
}
use Rattle.tree_filesets.specs.declared.fileset.Fileset.{Fileset}
use Rattle.tree_filesets.specs.Rows.{fileset_answer}
use Rattle.tree_answers.specs.declared.tree.Tree.{Tree}
use Rattle.tree_answers.specs.Answers.{for_user, with_answered, deciding_place, fileset_row, answer_for, answer_to}
use Rattle.tree_answers.specs.Uses.{is_used}
use Rattle.tree_answers.proofs.Led.{get_there}

row_at : (tree : Tree) (host : HostId) (call : Call) (user : User) (place : ℕ) (fileset : Fileset) → deciding_place tree call ≡ Ok place → slice_get tree.filesets place ≡ Some fileset →
    fileset_row tree host user call ≡ with_answered tree place (fileset_answer fileset (is_used tree.locks tree.opens) host user call)
unfolding fileset_row
row_at tree host call user place fileset d t = rw d (rw t refl)

answered_by : (tree : Tree) (host : HostId) (call : Call) (user : User) (place : ℕ) → deciding_place tree call ≡ Ok place →
    answer_for tree host call user ≡ fileset_row tree host user call
unfolding answer_for
answered_by tree host (Create place) user at d = refl
answered_by tree host (MakeDir place) user at d = refl
answered_by tree host (Remove place) user at d = refl
answered_by tree host (Rename from to) user at d = refl
answered_by tree host (Truncate place len) user at d = refl
answered_by tree host (SetAcl place which list) user at d = refl
answered_by tree host (Read place from len) user at d = refl
answered_by tree host (Write place from bytes) user at d = refl
answered_by tree host (ListNames place) user at d = refl
answered_by tree host (Stat place) user at d = refl
answered_by tree host (GetAcl place which) user at d = refl
answered_by tree host (Sync place) user at d = refl
answered_by tree host (NewFileset server name objects owner) user at d = absurd (cc)
answered_by tree host (CloneFileset server source new) user at d = absurd (cc)
answered_by tree host (MoveFileset server name to) user at d = absurd (cc)
answered_by tree host (Lock label place writing from len) user at d = absurd (cc)
answered_by tree host (Unlock label) user at d = absurd (cc)
answered_by tree host (OpenFile label place kind) user at d = absurd (cc)
answered_by tree host (CloseFile label) user at d = absurd (cc)

-- the answer of a fileset that decides a call of a host that acts for a user
pub asked : (tree : Tree) (host : HostId) (call : Call) (user : User) (place : ℕ) (fileset : Fileset) → user_of tree.roster host ≡ Some user → deciding_place tree call ≡ Ok place →
    place < length tree.filesets → fileset ≡ get_or tree.filesets place fileset →
    answer_to tree host call ≡ with_answered tree place (fileset_answer fileset (is_used tree.locks tree.opens) host user call)
unfolding answer_to
asked tree host call user place fileset acts d within there =
    ap (λ u. for_user tree u (answer_for tree host call)) acts ∙ answered_by tree host call user place d
    ∙ row_at tree host call user place fileset d (get_there tree.filesets place fileset within there)

-- what follows from an outcome's value
pub on_ok : {A E : Type 0} (result : Result A E) (P Q : Type 0) → (P → Q) → OnOk result P → OnOk result Q
on_ok (Ok value) P Q f h = f h
on_ok (Err error) P Q f h = h
