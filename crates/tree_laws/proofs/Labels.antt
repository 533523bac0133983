-- What entries leave of the locks and open files in use.
use Rattle.std.proofs.Common.{◌≡◌, ℕ, Bool, true, false, ◌||◌, not, cond, List, [], ◌∷◌, filter, Option, Some, None, Result, Ok, Err, refl, sym, ap, rules}
use Rattle.std.specs.Prelude.{slice_get, insert, if◌then◌else◌}
use Rattle.std.specs.List.{list_any}
use Rattle.base_types.specs.Outcomes.{either}
use Rattle.base_types.specs.declared.ids.HostId.{HostId}
use Rattle.base_types.specs.declared.ids.Fid.{Fid}
use Rattle.base_types.specs.declared.span.Span.{Span}
use Rattle.base_types.specs.declared.user.User.{User}
use Rattle.tree_calls.specs.declared.call.Call.{Call as CallOf}
use Rattle.tree_calls.specs.declared.call.Call.TheVariants.{NewFileset, Create, MakeDir, Remove, Rename, Truncate, SetAcl, CloneFileset, Read, Write, List as ListNames, Stat, GetAcl, Sync, Lock, Unlock, OpenFile, CloseFile, MoveFileset}
use Rattle.tree_calls.specs.declared.entry.Entry.TheVariants.{Call, Stored, Down, Left}
use Rattle.tree_calls.specs.declared.reply.Refusal.{Refusal}
use Rattle.tree_calls.specs.declared.reply.Refusal.TheVariants.{NotLocked, NotOpened}
use Rattle.tree_calls.specs.declared.reply.Reply.TheVariants.{Ok as Done}
use Rattle.tree_calls.specs.Rosters.{user_of}
use Rattle.tree_filesets.specs.declared.fileset.Fileset.{Fileset}
use Rattle.tree_filesets.specs.Answers.{Answered}
use Rattle.tree_filesets.specs.Founding.{new_fileset, cloned}
use Rattle.tree_filesets.specs.Rows.{fileset_answer}
use Rattle.tree_answers.specs.declared.tree.Tree.{Tree}
use Rattle.tree_answers.specs.Answers.{for_user, answer_at, deciding_place, fileset_row, answer_for, answer_to}
use Rattle.tree_answers.specs.Finding.{Answer, refuse}
use Rattle.tree_answers.specs.Founding.{next_id, with_fileset, new_fileset_target, new_fileset_answer, clone_target, clone_answer}
use Rattle.tree_answers.specs.Locks.{is_lock, has_lock, lock_check, lock_place, lock_answer, unlock_answer}
use Rattle.tree_answers.specs.Losses.{down_tree}
use Rattle.tree_answers.specs.Moving.{move_target, with_moved, move_answer, left_tree}
use Rattle.tree_answers.specs.Opens.{is_open, has_open, open_check, open_place, open_answer, close_answer}
use Rattle.tree_answers.specs.Stores.{stored_tree}
use Rattle.tree_answers.specs.Uses.{is_used}
use Rattle.tree_laws.specs.Labels.{locks_for, opens_for, AllLabelsChangeSo}

-- two trees with the same labels
pub record SameLabels (old new : Tree) : Type 0 where
  pub locks : new.locks ≡ old.locks
  pub opens : new.opens ≡ old.opens

same_itself : (tree : Tree) → SameLabels tree tree
same_itself tree = record { locks = refl; opens = refl }

row_labels : (tree : Tree) (found : Result ℕ Refusal) (ask : Fileset → Answered) → SameLabels tree (either found (λ place. answer_at tree place (slice_get tree.filesets place) ask) (refuse tree)).tree
row_labels tree (Err refusal) ask = same_itself tree
row_labels tree (Ok place) ask = by_found (slice_get tree.filesets place)
  where
    by_found : (o : Option Fileset) → SameLabels tree (answer_at tree place o ask).tree
    by_found None = record { locks = refl; opens = refl }
    by_found (Some fileset) = record { locks = refl; opens = refl }

fileset_labels : (tree : Tree) (host : HostId) (user : User) (call : CallOf) → SameLabels tree (fileset_row tree host user call).tree
unfolding fileset_row
fileset_labels tree host user call = row_labels tree (deciding_place tree call) (λ fileset. fileset_answer fileset (is_used tree.locks tree.opens) host user call)

checked_labels : {A : Type 0} (tree : Tree) (checked : Result A Refusal) (after : A → Tree) → ((found : A) → SameLabels tree (after found)) → SameLabels tree (either checked (λ found. let answer : Answer = record { reply = Done; tree = after found } in answer) (refuse tree)).tree
checked_labels tree (Ok found) after same = same found
checked_labels tree (Err refusal) after same = same_itself tree

-- where nothing passes a test, all is left
filter_none : {X : Type 0} (p : X → Bool) (xs : List X) → list_any p xs ≡ false → filter (λ x. not (p x)) xs ≡ xs
filter_none p [] h = refl
filter_none p (x ∷ xs) h = by_test (p x) h (filter_none p xs)
  where
    by_test : (b : Bool) → (b || list_any p xs) ≡ false → (list_any p xs ≡ false → filter (λ x. not (p x)) xs ≡ xs) → cond (not b) (x ∷ filter (λ x. not (p x)) xs) (filter (λ x. not (p x)) xs) ≡ x ∷ xs
    by_test true k rest = absurd (search (rules, k))
    by_test false k rest = ap (λ ys. x ∷ ys) (rest k)

module _ (tree : Tree) (host : HostId) (user : User) where
  abbrev Locked : Tree → CallOf → Type 0
  Locked new call = (new.locks ≡ locks_for tree host call (Some user)) × (new.opens ≡ opens_for tree host call (Some user))

  locked : (label : List ℕ) (writing : Bool) (checked : Result (Fid × Span) Refusal) →
      (either checked (λ (fid, span). let answer : Answer = record { reply = Done; tree = Rattle.tree_answers.specs.Locks.with_lock tree (record { host = host; label = label; fid = fid; writing = writing; span = span }) } in answer) (refuse tree)).tree.locks
      ≡ either checked (λ (fid, span). insert tree.locks (lock_place tree.locks host label) (record { host = host; label = label; fid = fid; writing = writing; span = span })) (λ refusal. tree.locks)
  locked label writing (Ok found) = refl
  locked label writing (Err refusal) = refl

  locked_opens : (label : List ℕ) (writing : Bool) (checked : Result (Fid × Span) Refusal) →
      (either checked (λ (fid, span). let answer : Answer = record { reply = Done; tree = Rattle.tree_answers.specs.Locks.with_lock tree (record { host = host; label = label; fid = fid; writing = writing; span = span }) } in answer) (refuse tree)).tree.opens ≡ tree.opens
  locked_opens label writing (Ok found) = refl
  locked_opens label writing (Err refusal) = refl

  opened : (label : List ℕ) (kind : _) (checked : Result Fid Refusal) →
      (either checked (λ fid. let answer : Answer = record { reply = Done; tree = Rattle.tree_answers.specs.Opens.with_open tree (record { host = host; label = label; fid = fid; kind = kind }) } in answer) (refuse tree)).tree.opens
      ≡ either checked (λ fid. insert tree.opens (open_place tree.opens host label) (record { host = host; label = label; fid = fid; kind = kind })) (λ refusal. tree.opens)
  opened label kind (Ok fid) = refl
  opened label kind (Err refusal) = refl

  opened_locks : (label : List ℕ) (kind : _) (checked : Result Fid Refusal) →
      (either checked (λ fid. let answer : Answer = record { reply = Done; tree = Rattle.tree_answers.specs.Opens.with_open tree (record { host = host; label = label; fid = fid; kind = kind }) } in answer) (refuse tree)).tree.locks ≡ tree.locks
  opened_locks label kind (Ok fid) = refl
  opened_locks label kind (Err refusal) = refl

  unlocked : (b : Bool) (label : List ℕ) → list_any (is_lock host label) tree.locks ≡ b →
      (if not b then refuse tree NotLocked else (let answer : Answer = record { reply = Done; tree = record tree { locks = filter (λ lock. not (is_lock host label lock)) tree.locks } } in answer)).tree.locks ≡ filter (λ lock. not (is_lock host label lock)) tree.locks
  unlocked true label e = refl
  unlocked false label e = sym (filter_none (is_lock host label) tree.locks e)

  unlocked_opens : (b : Bool) (label : List ℕ) →
      (if not b then refuse tree NotLocked else (let answer : Answer = record { reply = Done; tree = record tree { locks = filter (λ lock. not (is_lock host label lock)) tree.locks } } in answer)).tree.opens ≡ tree.opens
  unlocked_opens true label = refl
  unlocked_opens false label = refl

  closed : (b : Bool) (label : List ℕ) → list_any (is_open host label) tree.opens ≡ b →
      (if not b then refuse tree NotOpened else (let answer : Answer = record { reply = Done; tree = record tree { opens = filter (λ opened. not (is_open host label opened)) tree.opens } } in answer)).tree.opens ≡ filter (λ opened. not (is_open host label opened)) tree.opens
  closed true label e = refl
  closed false label e = sym (filter_none (is_open host label) tree.opens e)

  closed_locks : (b : Bool) (label : List ℕ) →
      (if not b then refuse tree NotOpened else (let answer : Answer = record { reply = Done; tree = record tree { opens = filter (λ opened. not (is_open host label opened)) tree.opens } } in answer)).tree.locks ≡ tree.locks
  closed_locks true label = refl
  closed_locks false label = refl

  row_case : (call : CallOf) → ((fileset_row tree host user call).tree.locks ≡ tree.locks) × ((fileset_row tree host user call).tree.opens ≡ tree.opens)
  row_case call = let same = fileset_labels tree host user call in (same.locks, same.opens)

  labels_for : (call : CallOf) → Locked (answer_for tree host call user).tree call
  unfolding answer_for new_fileset_answer clone_answer lock_answer unlock_answer open_answer close_answer move_answer
  labels_for (NewFileset server name objects owner) =
      let same = checked_labels tree (new_fileset_target tree server name objects) (λ room. with_fileset tree server room (new_fileset server (next_id server room) name objects owner)) (λ room. record { locks = refl; opens = refl }) in (same.locks, same.opens)
  labels_for (CloneFileset server source new) =
      let same = checked_labels tree (clone_target tree user server source new) (λ (fileset, room). with_fileset tree server room (cloned fileset (next_id server room) new)) (λ found. record { locks = refl; opens = refl }) in (same.locks, same.opens)
  labels_for (MoveFileset server name to) =
      let same = checked_labels tree (move_target tree user server name to) (λ (place, fileset). with_moved tree place fileset to) (λ found. record { locks = refl; opens = refl }) in (same.locks, same.opens)
  labels_for (Lock label place writing from len) = (locked label writing (lock_check tree host user label place writing from len), locked_opens label writing (lock_check tree host user label place writing from len))
  labels_for (Unlock label) = (unlocked (has_lock tree.locks host label) label refl, unlocked_opens (has_lock tree.locks host label) label)
  labels_for (OpenFile label place kind) = (opened_locks label kind (open_check tree host user label place kind), opened label kind (open_check tree host user label place kind))
  labels_for (CloseFile label) = (closed_locks (has_open tree.opens host label) label, closed (has_open tree.opens host label) label refl)
  labels_for (Create place) = row_case (Create place)
  labels_for (MakeDir place) = row_case (MakeDir place)
  labels_for (Remove place) = row_case (Remove place)
  labels_for (Rename from to) = row_case (Rename from to)
  labels_for (Truncate place len) = row_case (Truncate place len)
  labels_for (SetAcl place which list) = row_case (SetAcl place which list)
  labels_for (Read place from len) = row_case (Read place from len)
  labels_for (Write place from bytes) = row_case (Write place from bytes)
  labels_for (ListNames place) = row_case (ListNames place)
  labels_for (Stat place) = row_case (Stat place)
  labels_for (GetAcl place which) = row_case (GetAcl place which)
  labels_for (Sync place) = row_case (Sync place)

labels_user : (tree : Tree) (host : HostId) (call : CallOf) (found : Option User) → let new = (for_user tree found (answer_for tree host call)).tree in
    (new.locks ≡ locks_for tree host call found) × (new.opens ≡ opens_for tree host call found)
labels_user tree host call (Some user) = labels_for tree host user call
labels_user tree host call None = (refl, refl)

pub labels_change_so : AllLabelsChangeSo
unfolding answer_to stored_tree down_tree left_tree
labels_change_so tree (Call host k call reply) = let both = labels_user tree host call (user_of tree.roster host) in record { locks = both.0; opens = both.1 }
labels_change_so tree (Stored host fid spans stored) = record { locks = refl; opens = refl }
labels_change_so tree (Down host server) = record { locks = refl; opens = refl }
labels_change_so tree (Left server id) = record { locks = refl; opens = refl }
