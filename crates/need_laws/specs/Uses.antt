-- How calls are answered that look at what is in use.
use Rattle.std.specs.Prelude.{◌≡◌, ◌+◌, nat_le, Bool, true, false, if◌then◌else◌, List, [], ◌∷◌, ◌++◌, Some, ℕ}
use Rattle.base_types.specs.declared.ids.Fid.{Fid}
use Rattle.base_types.specs.declared.ids.HostId.{HostId}
use Rattle.base_types.specs.declared.ids.OpenKind.{OpenKind}
use Rattle.base_types.specs.declared.limits.TheConstants.{LABELS_MAX}
use Rattle.base_types.specs.declared.user.User.{User}
use Rattle.tree_calls.specs.Rosters.{user_of}
use Rattle.tree_calls.specs.declared.call.Call.TheVariants.{Remove, Lock, OpenFile}
use Rattle.tree_calls.specs.declared.place.Place.{Place}
use Rattle.tree_calls.specs.declared.reply.Refusal.{Refusal}
use Rattle.tree_calls.specs.declared.reply.Refusal.TheVariants.{AlreadyLocked, InUse, Locked, OpenConflict}
use Rattle.tree_calls.specs.declared.reply.Reply.TheVariants.{Ok as Done, Refused}
use Rattle.tree_objects.specs.Spans.{span_between}
use Rattle.tree_answers.specs.Answers.{answer_to}
use Rattle.tree_answers.specs.Locks.{has_lock, is_excluded, is_own_locked, lock_count}
use Rattle.tree_answers.specs.Opens.{has_open, is_barred, open_count}
use Rattle.tree_answers.specs.Uses.{is_used}
use Rattle.tree_answers.specs.WellFormed.{IsWellFormed}
use Rattle.tree_answers.specs.declared.tree.Tree.{Tree}
use Rattle.need_server.specs.Wants.{all_of, every_use_of, want}
use Rattle.token_types.specs.declared.token.Kind.TheVariants.{Lock as LockKind, Opening}
use Rattle.need_laws.specs.Idle.{idle, idle_answer}

-- How a Remove is answered in both: it is refused alike; or else it wants every use of an object, and where that is in
-- use the tree refuses it.
pub data RemoveIs (tree : Tree) (host : HostId) (user : User) (place : Place) : Type 0 where
  Refuses : (refusal : Refusal) → (answer_to (idle tree) host (Remove place)).reply ≡ Refused refusal
      → (answer_to tree host (Remove place)).reply ≡ Refused refusal → RemoveIs tree host user place
  MeetsUse : (parent file : Fid)
      → want tree user (Remove place) ≡ all_of true parent ++ all_of true file ++ every_use_of file
      → (answer_to (idle tree) host (Remove place)).reply ≡ Done → is_used tree.locks tree.opens file ≡ true
      → (answer_to tree host (Remove place)).reply ≡ Refused InUse → RemoveIs tree host user place
  Removes : (parent file : Fid)
      → want tree user (Remove place) ≡ all_of true parent ++ all_of true file ++ every_use_of file
      → (answer_to (idle tree) host (Remove place)).reply ≡ Done → is_used tree.locks tree.opens file ≡ false
      → answer_to (idle tree) host (Remove place) ≡ idle_answer (answer_to tree host (Remove place))
      → RemoveIs tree host user place

abbrev pub RemovesMindUses : Type 0
RemovesMindUses =
    (tree : Tree) (host : HostId) (user : User) (place : Place) →
    IsWellFormed tree → user_of tree.roster host ≡ Some user → RemoveIs tree host user place

-- How a Lock under a free label is answered in both: it is refused alike; or else it wants the exact lock, and the tree
-- refuses it where a lock is in its way.
pub data LockIs
    (tree : Tree) (host : HostId) (user : User) (label : List ℕ) (place : Place) (writing : Bool) (from len : ℕ)
    : Type 0 where
  RefusesLock : (refusal : Refusal)
      → (answer_to (idle tree) host (Lock label place writing from len)).reply ≡ Refused refusal
      → (answer_to tree host (Lock label place writing from len)).reply ≡ Refused refusal
      → LockIs tree host user label place writing from len
  WantsLock : (file : Fid)
      → want tree user (Lock label place writing from len)
      ≡ record { fid = file; kind = LockKind writing (span_between from (from + len)) } ∷ []
      → (answer_to (idle tree) host (Lock label place writing from len)).reply ≡ Done
      → (answer_to tree host (Lock label place writing from len)).reply
      ≡ (if is_own_locked tree.locks host file (span_between from (from + len)) then Refused AlreadyLocked
      else if is_excluded tree.locks host file (span_between from (from + len)) writing then Refused Locked else Done)
      → LockIs tree host user label place writing from len

abbrev pub LocksMindUses : Type 0
LocksMindUses =
    (tree : Tree) (host : HostId) (user : User) (label : List ℕ) (place : Place) (writing : Bool) (from len : ℕ) →
    user_of tree.roster host ≡ Some user → has_lock tree.locks host label ≡ false →
    nat_le LABELS_MAX (lock_count tree.locks host) ≡ false → LockIs tree host user label place writing from len

-- the same of an OpenFile
pub data OpenIs (tree : Tree) (host : HostId) (user : User) (label : List ℕ) (place : Place) (kind : OpenKind)
    : Type 0 where
  RefusesOpen : (refusal : Refusal)
      → (answer_to (idle tree) host (OpenFile label place kind)).reply ≡ Refused refusal
      → (answer_to tree host (OpenFile label place kind)).reply ≡ Refused refusal
      → OpenIs tree host user label place kind
  WantsOpen : (file : Fid)
      → want tree user (OpenFile label place kind) ≡ record { fid = file; kind = Opening kind } ∷ []
      → (answer_to (idle tree) host (OpenFile label place kind)).reply ≡ Done
      → (answer_to tree host (OpenFile label place kind)).reply
      ≡ (if is_barred tree.opens host file kind then Refused OpenConflict else Done)
      → OpenIs tree host user label place kind

abbrev pub OpensMindUses : Type 0
OpensMindUses =
    (tree : Tree) (host : HostId) (user : User) (label : List ℕ) (place : Place) (kind : OpenKind) →
    user_of tree.roster host ≡ Some user → has_open tree.opens host label ≡ false →
    nat_le LABELS_MAX (open_count tree.opens host) ≡ false → OpenIs tree host user label place kind
