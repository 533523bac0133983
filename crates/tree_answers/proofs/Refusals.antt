-- A refused call changes nothing.
use Rattle.std.proofs.Common.{◌≡◌, ℕ, zero, suc, Bool, true, false, not, cond, List, [], ◌∷◌, Option, Some, None, Result, Ok, Err, set, refl, ap, ◌∙◌, rules}
use Rattle.std.specs.Prelude.{slice_get}
use Rattle.base_types.specs.Outcomes.{either}
use Rattle.base_types.specs.declared.ids.HostId.{HostId}
use Rattle.base_types.specs.declared.user.User.{User}
use Rattle.tree_calls.specs.declared.call.Call.{Call}
use Rattle.tree_calls.specs.declared.call.Call.TheVariants.{NewFileset, Create, MakeDir, Remove, Rename, Truncate, SetAcl, CloneFileset, Read, Write, List as ListNames, Stat, GetAcl, Sync, Lock, Unlock, OpenFile, CloseFile, MoveFileset}
use Rattle.tree_calls.specs.declared.reply.Refusal.{Refusal}
use Rattle.tree_calls.specs.declared.reply.Reply.TheVariants.{Ok as Done, Refused}
use Rattle.tree_filesets.specs.declared.fileset.Fileset.{Fileset}
use Rattle.tree_filesets.specs.Answers.{Answered}
use Rattle.tree_filesets.specs.Rows.{fileset_answer}
use Rattle.tree_filesets.proofs.Refusals.{refused_changes_nothing}
use Rattle.tree_answers.specs.declared.tree.Tree.{Tree}
use Rattle.tree_calls.specs.Rosters.{user_of}
use Rattle.tree_answers.specs.Finding.{Answer, refuse}
use Rattle.tree_answers.specs.Founding.{new_fileset_answer, new_fileset_target, clone_answer, clone_target}
use Rattle.tree_answers.specs.Moving.{move_answer, move_target}
use Rattle.tree_answers.specs.Uses.{is_used}
use Rattle.tree_answers.specs.Locks.{lock_answer, lock_check, unlock_answer, has_lock}
use Rattle.tree_answers.specs.Opens.{open_answer, open_check, close_answer, has_open}
use Rattle.tree_answers.specs.Answers.{for_user, answer_at, deciding_place, fileset_row, answer_for, answer_to}

-- a reply that a call is done refuses nothing
done_refuses : {A : Type 0} (refusal : Refusal) → Done ≡ Refused refusal → A
done_refuses refusal h = absurd (search (rules, h))

-- what stands at a place, put there again
pub set_same : {X : Type 0} (xs : List X) (i : ℕ) (x : X) → Some x ≡ slice_get xs i → set xs i x ≡ xs
set_same [] i x h = refl
set_same (y ∷ ys) zero x h = let same : x ≡ y = cc in ap (λ z. z ∷ ys) same
set_same (y ∷ ys) (suc i) x h = ap (λ zs. y ∷ zs) (set_same ys i x h)

-- a tree in which one fileset answers
refused_at : (tree : Tree) (place : ℕ) (found : Option Fileset) (ask : Fileset → Answered) (refusal : Refusal) → found ≡ slice_get tree.filesets place →
    ((fileset : Fileset) → (ask fileset).reply ≡ Refused refusal → (ask fileset).fileset ≡ fileset) →
    (answer_at tree place found ask).reply ≡ Refused refusal → (answer_at tree place found ask).tree ≡ tree
refused_at tree place None ask refusal e k h = refl
refused_at tree place (Some fileset) ask refusal e k h =
    ap (λ filesets. record tree { filesets = filesets }) (ap (λ f. set tree.filesets place f) (k fileset h) ∙ set_same tree.filesets place fileset e)

-- a row that one fileset decides
refused_place : (tree : Tree) (found : Result ℕ Refusal) (ask : Fileset → Answered) (refusal : Refusal) →
    ((fileset : Fileset) → (ask fileset).reply ≡ Refused refusal → (ask fileset).fileset ≡ fileset) →
    (either found (λ place. answer_at tree place (slice_get tree.filesets place) ask) (refuse tree)).reply ≡ Refused refusal →
    (either found (λ place. answer_at tree place (slice_get tree.filesets place) ask) (refuse tree)).tree ≡ tree
refused_place tree (Err why) ask refusal k h = refl
refused_place tree (Ok place) ask refusal k h = refused_at tree place (slice_get tree.filesets place) ask refusal refl k h

refused_fileset_row : (tree : Tree) (host : HostId) (user : User) (call : Call) (refusal : Refusal) →
    (fileset_row tree host user call).reply ≡ Refused refusal → (fileset_row tree host user call).tree ≡ tree
unfolding fileset_row
refused_fileset_row tree host user call refusal h =
    refused_place tree (deciding_place tree call) (λ fileset. fileset_answer fileset (is_used tree.locks tree.opens) host user call) refusal
    (λ fileset k. refused_changes_nothing fileset (is_used tree.locks tree.opens) host user call refusal k) h

-- a row of the tree itself
refused_either : {A : Type 0} (tree : Tree) (checked : Result A Refusal) (effect : A → Tree) (refusal : Refusal) →
    (either checked (λ found. let answer : Answer = record { reply = Done; tree = effect found } in answer) (refuse tree)).reply ≡ Refused refusal →
    (either checked (λ found. let answer : Answer = record { reply = Done; tree = effect found } in answer) (refuse tree)).tree ≡ tree
refused_either tree (Ok found) effect refusal h = done_refuses refusal h
refused_either tree (Err why) effect refusal h = refl

-- a use that ends, where there is one
refused_unless : (is_there : Bool) (tree after : Tree) (why refusal : Refusal) →
    (cond {A = Answer} (not is_there) (refuse tree why) (record { reply = Done; tree = after })).reply ≡ Refused refusal →
    (cond {A = Answer} (not is_there) (refuse tree why) (record { reply = Done; tree = after })).tree ≡ tree
refused_unless true tree after why refusal h = done_refuses refusal h
refused_unless false tree after why refusal h = refl

refused_for : (tree : Tree) (host : HostId) (call : Call) (user : User) (refusal : Refusal) → (answer_for tree host call user).reply ≡ Refused refusal → (answer_for tree host call user).tree ≡ tree
unfolding answer_for new_fileset_answer clone_answer move_answer lock_answer unlock_answer open_answer close_answer
refused_for tree host (NewFileset server name objects owner) user refusal h = refused_either tree (new_fileset_target tree server name objects) _ refusal h
refused_for tree host (CloneFileset server source new) user refusal h = refused_either tree (clone_target tree user server source new) _ refusal h
refused_for tree host (MoveFileset server name to) user refusal h = refused_either tree (move_target tree user server name to) _ refusal h
refused_for tree host (Lock label place writing from len) user refusal h = refused_either tree (lock_check tree host user label place writing from len) _ refusal h
refused_for tree host (Unlock label) user refusal h = refused_unless (has_lock tree.locks host label) tree _ _ refusal h
refused_for tree host (OpenFile label place kind) user refusal h = refused_either tree (open_check tree host user label place kind) _ refusal h
refused_for tree host (CloseFile label) user refusal h = refused_unless (has_open tree.opens host label) tree _ _ refusal h
refused_for tree host (Create place) user refusal h = refused_fileset_row tree host user (Create place) refusal h
refused_for tree host (MakeDir place) user refusal h = refused_fileset_row tree host user (MakeDir place) refusal h
refused_for tree host (Remove place) user refusal h = refused_fileset_row tree host user (Remove place) refusal h
refused_for tree host (Rename from to) user refusal h = refused_fileset_row tree host user (Rename from to) refusal h
refused_for tree host (Truncate place len) user refusal h = refused_fileset_row tree host user (Truncate place len) refusal h
refused_for tree host (SetAcl place which list) user refusal h = refused_fileset_row tree host user (SetAcl place which list) refusal h
refused_for tree host (Read place from len) user refusal h = refused_fileset_row tree host user (Read place from len) refusal h
refused_for tree host (Write place from bytes) user refusal h = refused_fileset_row tree host user (Write place from bytes) refusal h
refused_for tree host (ListNames place) user refusal h = refused_fileset_row tree host user (ListNames place) refusal h
refused_for tree host (Stat place) user refusal h = refused_fileset_row tree host user (Stat place) refusal h
refused_for tree host (GetAcl place which) user refusal h = refused_fileset_row tree host user (GetAcl place which) refusal h
refused_for tree host (Sync place) user refusal h = refused_fileset_row tree host user (Sync place) refusal h

-- whoever calls
refused_user : (tree : Tree) (found : Option User) (act : User → Answer) (refusal : Refusal) → ((user : User) → (act user).reply ≡ Refused refusal → (act user).tree ≡ tree) →
    (for_user tree found act).reply ≡ Refused refusal → (for_user tree found act).tree ≡ tree
refused_user tree None act refusal k h = refl
refused_user tree (Some user) act refusal k h = k user h

pub refused_call : (tree : Tree) (host : HostId) (call : Call) (refusal : Refusal) → (answer_to tree host call).reply ≡ Refused refusal → (answer_to tree host call).tree ≡ tree
unfolding answer_to
refused_call tree host call refusal h = refused_user tree (user_of tree.roster host) (answer_for tree host call) refusal (λ user k. refused_for tree host call user refusal k) h
