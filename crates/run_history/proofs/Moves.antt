-- Calls that move no fileset count no move of one.
use Rattle.std.proofs.Common.{Bool, Err, List, None, Ok, Option, Result, Some, ap, false, not, refl, suc, sym, true}
use Rattle.std.proofs.Common.{zero, ℕ, ◌==◌, ◌∙◌, ◌∷◌, ◌≡◌}
use Rattle.std.proofs.lemmas.Bool.{and_parts, false≢true}
use Rattle.std.specs.List.{list_all}
use Rattle.std.specs.Prelude.{[], if◌then◌else◌, slice_get}
use Rattle.base_types.specs.Outcomes.{either}
use Rattle.base_types.specs.declared.ids.FilesetId.{FilesetId}
use Rattle.base_types.specs.declared.ids.HostId.{HostId}
use Rattle.base_types.specs.declared.ids.ServerId.{ServerId}
use Rattle.base_types.specs.declared.user.User.{User}
use Rattle.tree_calls.specs.Rosters.{user_of}
use Rattle.tree_calls.specs.declared.call.Call.{Call}
use Rattle.tree_calls.specs.declared.call.Call.TheVariants.{CloneFileset, CloseFile, Create, GetAcl, List as ListNames}
use Rattle.tree_calls.specs.declared.call.Call.TheVariants.{Lock as LockCall, MakeDir, MoveFileset, NewFileset}
use Rattle.tree_calls.specs.declared.call.Call.TheVariants.{OpenFile, Read, Remove, Rename, SetAcl, Stat, Sync}
use Rattle.tree_calls.specs.declared.call.Call.TheVariants.{Truncate, Unlock, Write}
use Rattle.tree_calls.specs.declared.reply.Refusal.{Refusal}
use Rattle.tree_calls.specs.declared.reply.Refusal.TheVariants.{NotLocked, NotOpened}
use Rattle.tree_calls.specs.declared.reply.Reply.TheVariants.{Ok as Done}
use Rattle.tree_filesets.proofs.Stays.{stays_itself}
use Rattle.tree_filesets.specs.Answers.{Answered}
use Rattle.tree_filesets.specs.Founding.{cloned, new_fileset}
use Rattle.tree_filesets.specs.Laws.{IsSameFileset}
use Rattle.tree_filesets.specs.declared.fileset.Fileset.{Fileset}
use Rattle.tree_answers.proofs.Inserted.{all_insert}
use Rattle.tree_answers.proofs.Places.{all_set}
use Rattle.tree_answers.specs.Answers.{answer_at, answer_for, answer_to, fileset_row, for_user}
use Rattle.tree_answers.specs.Finding.{Answer, id_place, refuse}
use Rattle.tree_answers.specs.Founding.{clone_answer, clone_target, new_fileset_answer, new_fileset_target, next_id}
use Rattle.tree_answers.specs.Founding.{with_fileset}
use Rattle.tree_answers.specs.Locks.{has_lock, lock_answer, lock_check, unlock_answer}
use Rattle.tree_answers.specs.Opens.{close_answer, has_open, open_answer, open_check}
use Rattle.tree_answers.specs.declared.tree.ServerRoom.{ServerRoom}
use Rattle.tree_answers.specs.declared.tree.Tree.{Tree}
use Rattle.run_rules.specs.Wants.{moves_fileset}

-- a fileset that never moved
abbrev pub never_moved : Fileset → Bool
never_moved fileset = fileset.moves == 0

all_at : {X : Type 0} (p : X → Bool) (xs : List X) (i : ℕ) (x : X) → list_all p xs ≡ true → slice_get xs i ≡ Some x
    → p x ≡ true
all_at p [] i x all e = absurd (let q : None ≡ Some x = e in cc)
all_at p (y ∷ ys) zero x all e =
    let one : y ≡ x = (let q : Some y ≡ Some x = e in cc) in
    ap p (sym one) ∙ (and_parts (p y) (list_all p ys) all).0
all_at p (y ∷ ys) (suc i) x all e = all_at p ys i x (and_parts (p y) (list_all p ys) all).1 e

new_never : (server : ServerId) (id : FilesetId) (name : List ℕ) (objects : ℕ) (owner : User)
    → never_moved (new_fileset server id name objects owner) ≡ true
unfolding new_fileset
new_never server id name objects owner = refl

clone_never : (source : Fileset) (id : FilesetId) (name : List ℕ) → never_moved (cloned source id name) ≡ true
unfolding cloned
clone_never source id name = refl

module _ (tree : Tree) (never : list_all never_moved tree.filesets ≡ true) where
  with_new : (server : ServerId) (room : ServerRoom) (fileset : Fileset) → never_moved fileset ≡ true
      → list_all never_moved (with_fileset tree server room fileset).filesets ≡ true
  with_new server room fileset e =
      all_insert never_moved fileset (id_place tree.filesets fileset.id) tree.filesets e never

  row_never : (ask : Fileset → Answered) → ((fileset : Fileset) → IsSameFileset fileset (ask fileset).fileset)
      → (found : Result ℕ Refusal)
      → list_all never_moved
      (either found (λ place. answer_at tree place (slice_get tree.filesets place) ask) (refuse tree)).tree.filesets
      ≡ true
  row_never ask same (Err refusal) = never
  row_never ask same (Ok place) = by (slice_get tree.filesets place) refl
    where
      by : (o : Option Fileset) → slice_get tree.filesets place ≡ o
          → list_all never_moved (answer_at tree place o ask).tree.filesets ≡ true
      by None e = never
      by (Some fileset) e =
          all_set never_moved tree.filesets place (ask fileset).fileset
          (ap (λ (n : ℕ). n == 0) (same fileset).moves ∙ all_at never_moved tree.filesets place fileset never e) never

  if_never : (b : Bool) (refusal : Refusal) (answer : Answer) → list_all never_moved answer.tree.filesets ≡ true
      → list_all never_moved (if b then refuse tree refusal else answer).tree.filesets ≡ true
  if_never true refusal answer e = never
  if_never false refusal answer e = e

  either_never : {A : Type 0} (found : Result A Refusal) (next : A → Answer)
      → ((x : A) → found ≡ Ok x → list_all never_moved (next x).tree.filesets ≡ true)
      → list_all never_moved (either found next (refuse tree)).tree.filesets ≡ true
  either_never (Ok x) next all = all x refl
  either_never (Err refusal) next all = never

  module _ (host : HostId) (user : User) where
    for_never : (call : Call) → moves_fileset call ≡ false
        → list_all never_moved (answer_for tree host call user).tree.filesets ≡ true
    unfolding answer_for fileset_row new_fileset_answer clone_answer lock_answer open_answer unlock_answer close_answer
    for_never (NewFileset server name objects owner) e =
        either_never (new_fileset_target tree server name objects) (λ room. let answer : Answer = record {
          reply = Done;
          tree = with_fileset tree server room (new_fileset server (next_id server room) name objects owner);
        } in answer) (λ room q.
        with_new server room (new_fileset server (next_id server room) name objects owner)
        (new_never server (next_id server room) name objects owner))
    for_never (CloneFileset server source new) e =
        either_never (clone_target tree user server source new) (λ (fileset, room). let answer : Answer = record {
          reply = Done;
          tree = with_fileset tree server room (cloned fileset (next_id server room) new);
        } in answer) (λ found q.
        with_new server found.1 (cloned found.0 (next_id server found.1) new)
        (clone_never found.0 (next_id server found.1) new))
    for_never (MoveFileset server name to) e = absurd (false≢true (sym e))
    for_never (LockCall label place writing from len) e =
        either_never (lock_check tree host user label place writing from len) _ (λ found q. never)
    for_never (OpenFile label place kind) e =
        either_never (open_check tree host user label place kind) _ (λ found q. never)
    for_never (Unlock label) e = if_never (not (has_lock tree.locks host label)) NotLocked _ never
    for_never (CloseFile label) e = if_never (not (has_open tree.opens host label)) NotOpened _ never
    for_never (Create place) e = row_never _ (λ fileset. stays_itself fileset _ host user (Create place)) _
    for_never (MakeDir place) e = row_never _ (λ fileset. stays_itself fileset _ host user (MakeDir place)) _
    for_never (Remove place) e = row_never _ (λ fileset. stays_itself fileset _ host user (Remove place)) _
    for_never (Rename from to) e = row_never _ (λ fileset. stays_itself fileset _ host user (Rename from to)) _
    for_never (Truncate place len) e =
        row_never _ (λ fileset. stays_itself fileset _ host user (Truncate place len)) _
    for_never (SetAcl place which list) e =
        row_never _ (λ fileset. stays_itself fileset _ host user (SetAcl place which list)) _
    for_never (Read place from len) e =
        row_never _ (λ fileset. stays_itself fileset _ host user (Read place from len)) _
    for_never (Write place from bytes) e =
        row_never _ (λ fileset. stays_itself fileset _ host user (Write place from bytes)) _
    for_never (ListNames place) e = row_never _ (λ fileset. stays_itself fileset _ host user (ListNames place)) _
    for_never (Stat place) e = row_never _ (λ fileset. stays_itself fileset _ host user (Stat place)) _
    for_never (GetAcl place which) e =
        row_never _ (λ fileset. stays_itself fileset _ host user (GetAcl place which)) _
    for_never (Sync place) e = row_never _ (λ fileset. stays_itself fileset _ host user (Sync place)) _

  pub never_after : (host : HostId) (call : Call) → moves_fileset call ≡ false
      → list_all never_moved (answer_to tree host call).tree.filesets ≡ true
  unfolding answer_to
  never_after host call e = by (user_of tree.roster host)
    where
      by : (o : Option User) → list_all never_moved (for_user tree o (answer_for tree host call)).tree.filesets ≡ true
      by None = never
      by (Some user) = for_never host user call e
