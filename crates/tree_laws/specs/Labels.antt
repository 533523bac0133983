-- The locks and open files in use.
use Rattle.std.specs.Prelude.{
  ◌≡◌,
  ◌≤◌,
  ◌↔◌,
  ℕ,
  ◌==◌,
  Bool,
  true,
  false,
  ◌&&◌,
  ◌||◌,
  not,
  if◌then◌else◌,
  List,
  [],
  ◌∷◌,
  map,
  insert,
  filter,
  Option,
  Some,
  None,
  Ok,
  ◌+◌,
}
use Rattle.std.specs.List.{list_any, list_all, count_by}
use Rattle.base_types.specs.Ids.{same_fid}
use Rattle.base_types.specs.Name.{same_name}
use Rattle.base_types.specs.Opens.{opens_conflict}
use Rattle.base_types.specs.Spans.{has_byte, overlap}
use Rattle.base_types.specs.declared.ids.HostId.{HostId}
use Rattle.base_types.specs.declared.ids.Fid.{Fid}
use Rattle.base_types.specs.declared.ids.OpenKind.{OpenKind}
use Rattle.base_types.specs.declared.ids.OpenKind.TheVariants.{Reading, Writing, Executing, Shared, Exclusive}
use Rattle.base_types.specs.declared.span.Span.{Span}
use Rattle.base_types.specs.declared.user.User.{User}
use Rattle.base_types.specs.Outcomes.{and_then, either}
use Rattle.tree_calls.specs.declared.call.Call.{Call as CallOf}
use Rattle.tree_calls.specs.declared.call.Call.TheVariants.{Lock, Unlock, OpenFile, CloseFile}
use Rattle.tree_calls.specs.declared.entry.Entry.{Entry}
use Rattle.tree_calls.specs.declared.entry.Entry.TheVariants.{Call, Stored, Down, Left}
use Rattle.tree_calls.specs.declared.place.Place.{Place}
use Rattle.tree_calls.specs.declared.reply.Refusal.TheVariants.{TooMany, Locked, OpenConflict}
use Rattle.tree_calls.specs.declared.reply.Reply.TheVariants.{Refused}
use Rattle.tree_calls.specs.declared.roster.Roster.{Roster}
use Rattle.tree_calls.specs.Rosters.{user_of}
use Rattle.tree_objects.specs.Spans.{span_between}
use Rattle.tree_filesets.specs.Uses.{lock_target, open_target}
use Rattle.tree_answers.specs.declared.tree.Tree.{Tree}
use Rattle.tree_answers.specs.declared.tree.LockUse.{LockUse}
use Rattle.tree_answers.specs.declared.tree.OpenUse.{OpenUse}
use Rattle.tree_answers.specs.Answers.{answer_to}
use Rattle.tree_answers.specs.Finding.{fileset_named}
use Rattle.tree_answers.specs.Founding.{new_tree}
use Rattle.tree_answers.specs.Histories.{after_entry}
use Rattle.tree_answers.specs.Locks.{is_lock, has_lock, lock_check, lock_place}
use Rattle.tree_answers.specs.Losses.{is_at}
use Rattle.tree_answers.specs.Opens.{is_open, has_open, open_check, open_place}
use Rattle.tree_answers.specs.Uses.{label_before}

-- the locks after a call: a Lock that isn't refused adds one, an Unlock ends that of its label
abbrev pub locks_for : Tree → HostId → CallOf → Option User → List LockUse
locks_for tree host call None = tree.locks
locks_for tree host (Lock label place writing from len) (Some user) =
    either (lock_check tree host user label place writing from len)
    (λ (fid, span).
    let new : LockUse = record { host = host; label = label; fid = fid; writing = writing; span = span } in
    insert tree.locks (lock_place tree.locks host label) new)
    (λ refusal. tree.locks)
locks_for tree host (Unlock label) (Some user) = filter (λ lock. not (is_lock host label lock)) tree.locks
locks_for tree host call (Some user) = tree.locks

-- a host that is down loses those on the server's filesets
abbrev pub locks_after : Tree → Entry → List LockUse
locks_after tree (Call host k call reply) = locks_for tree host call (user_of tree.roster host)
locks_after tree (Stored host fid spans stored) = tree.locks
locks_after tree (Left server id) = tree.locks
locks_after tree (Down host server) =
    filter (λ lock. not ((lock.host.0 == host.0) && is_at tree.filesets server lock.fid.fileset)) tree.locks

-- so it is with open files
abbrev pub opens_for : Tree → HostId → CallOf → Option User → List OpenUse
opens_for tree host call None = tree.opens
opens_for tree host (OpenFile label place kind) (Some user) =
    either (open_check tree host user label place kind)
    (λ fid.
    let new : OpenUse = record { host = host; label = label; fid = fid; kind = kind } in
    insert tree.opens (open_place tree.opens host label) new)
    (λ refusal. tree.opens)
opens_for tree host (CloseFile label) (Some user) = filter (λ opened. not (is_open host label opened)) tree.opens
opens_for tree host call (Some user) = tree.opens

abbrev pub opens_after : Tree → Entry → List OpenUse
opens_after tree (Call host k call reply) = opens_for tree host call (user_of tree.roster host)
opens_after tree (Stored host fid spans stored) = tree.opens
opens_after tree (Left server id) = tree.opens
opens_after tree (Down host server) =
    filter (λ opened. not ((opened.host.0 == host.0) && is_at tree.filesets server opened.fid.fileset)) tree.opens

pub record LabelsChangeSo (tree : Tree) (entry : Entry) : Type 0 where
  pub locks : (after_entry tree entry).locks ≡ locks_after tree entry
  pub opens : (after_entry tree entry).opens ≡ opens_after tree entry

abbrev pub AllLabelsChangeSo : Type 0
AllLabelsChangeSo = (tree : Tree) (entry : Entry) → LabelsChangeSo tree entry

-- whether each element of a list, with each later one, is so
abbrev pub each_two : {X : Type 0} → (X → X → Bool) → List X → Bool
each_two test [] = true
each_two test (x ∷ xs) = list_all (test x) xs && each_two test xs

-- Whether two locks may be in use together. Those of one host have two labels, and no byte in common. Where those of
-- two hosts have a byte in common, both are for reading.
abbrev pub locks_agree : LockUse → LockUse → Bool
locks_agree a b =
    let apart = not (same_fid a.fid b.fid && overlap a.span b.span) in
    if a.host.0 == b.host.0 then not (same_name a.label b.label) && apart
    else apart || (not a.writing && not b.writing)

-- Whether two files may be open together. Those of one host have two labels; those of two hosts are two files, or open
-- in ways that don't conflict.
abbrev pub opens_agree : OpenUse → OpenUse → Bool
opens_agree a b =
    if a.host.0 == b.host.0 then not (same_name a.label b.label)
    else not (same_fid a.fid b.fid && opens_conflict a.kind b.kind)

-- The locks and open files of a tree: they agree, they are in the order of hosts and labels, and each host has at most
-- 64 of each.
pub record UsesAgree (tree : Tree) : Type 0 where
  pub locks : each_two locks_agree tree.locks ≡ true
  pub lock_order : each_two (λ a b. label_before a.host a.label b.host b.label) tree.locks ≡ true
  pub lock_limit : (host : HostId) → count_by (λ lock. lock.host.0 == host.0) tree.locks ≤ 64
  pub opens : each_two opens_agree tree.opens ≡ true
  pub open_order : each_two (λ a b. label_before a.host a.label b.host b.label) tree.opens ≡ true
  pub open_limit : (host : HostId) → count_by (λ opened. opened.host.0 == host.0) tree.opens ≤ 64

-- they agree at the start, and each entry leaves it so
pub record UsesKeepAgreeing : Type 0 where
  pub start : (roster : Roster) → UsesAgree (new_tree roster)
  pub entry : (tree : Tree) (entry : Entry) → UsesAgree tree → UsesAgree (after_entry tree entry)

-- A lock or an open under a new label is refused for the number of labels exactly where the host itself has 64 of them,
-- whatever other hosts have.
pub record LabelsAreCountedByHost : Type 0 where
  pub locks :
      (tree : Tree) (host : HostId) (user : User) (label : List ℕ) (place : Place) (writing : Bool) (from len : ℕ) →
      user_of tree.roster host ≡ Some user → has_lock tree.locks host label ≡ false →
      ((answer_to tree host (Lock label place writing from len)).reply ≡ Refused TooMany)
      ↔ (64 ≤ count_by (λ lock. lock.host.0 == host.0) tree.locks)
  pub opens : (tree : Tree) (host : HostId) (user : User) (label : List ℕ) (place : Place) (kind : OpenKind) →
      user_of tree.roster host ≡ Some user → has_open tree.opens host label ≡ false →
      ((answer_to tree host (OpenFile label place kind)).reply ≡ Refused TooMany)
      ↔ (64 ≤ count_by (λ opened. opened.host.0 == host.0) tree.opens)

-- a lock of another host on the file that a place leads to doesn't agree with the one that is asked for
abbrev pub LockIsInTheWay : Tree → HostId → User → List ℕ → Place → Bool → ℕ → ℕ → Type 0
LockIsInTheWay tree host user label place writing from len =
    let asked : Fid → LockUse = λ fid.
    record { host = host; label = label; fid = fid; writing = writing; span = span_between from (from + len) } in
    (fid : Fid)
    × (and_then (fileset_named tree place.server place.fileset) (λ fileset.
    lock_target fileset user place.path writing) ≡ Ok fid)
    × (list_any (λ lock. not (lock.host.0 == host.0) && not (locks_agree lock (asked fid))) tree.locks ≡ true)

-- so with an open
abbrev pub OpenIsInTheWay : Tree → HostId → User → List ℕ → Place → OpenKind → Type 0
OpenIsInTheWay tree host user label place kind =
    let asked : Fid → OpenUse = λ fid. record { host = host; label = label; fid = fid; kind = kind } in
    (fid : Fid)
    × (and_then (fileset_named tree place.server place.fileset) (λ fileset.
    open_target fileset user place.path kind) ≡ Ok fid)
    × (list_any (λ opened. not (opened.host.0 == host.0) && not (opens_agree opened (asked fid))) tree.opens ≡ true)

-- only then a lock or an open is refused for another host's
pub record OthersExcludeOnlySo : Type 0 where
  pub locks :
      (tree : Tree) (host : HostId) (user : User) (label : List ℕ) (place : Place) (writing : Bool) (from len : ℕ) →
      user_of tree.roster host ≡ Some user →
      (answer_to tree host (Lock label place writing from len)).reply ≡ Refused Locked →
      LockIsInTheWay tree host user label place writing from len
  pub opens : (tree : Tree) (host : HostId) (user : User) (label : List ℕ) (place : Place) (kind : OpenKind) →
      user_of tree.roster host ≡ Some user →
      (answer_to tree host (OpenFile label place kind)).reply ≡ Refused OpenConflict →
      OpenIsInTheWay tree host user label place kind

-- two spans overlap exactly where they have a byte in common
abbrev pub OverlapIsCommon : Type 0
OverlapIsCommon = (a b : Span) → (overlap a b ≡ true) ↔ ((at : ℕ) × (has_byte a at ≡ true) × (has_byte b at ≡ true))

abbrev pub open_kinds : List OpenKind
open_kinds = Reading ∷ Writing ∷ Executing ∷ Shared ∷ Exclusive ∷ []

-- Which opens of two hosts conflict. The columns are reading, writing, executing, shared, exclusive.
pub record OpenTable : Type 0 where
  pub reading : map (opens_conflict Reading) open_kinds ≡ false ∷ false ∷ false ∷ false ∷ true ∷ []
  pub writing : map (opens_conflict Writing) open_kinds ≡ false ∷ false ∷ true ∷ true ∷ true ∷ []
  pub executing : map (opens_conflict Executing) open_kinds ≡ false ∷ true ∷ false ∷ false ∷ true ∷ []
  pub shared : map (opens_conflict Shared) open_kinds ≡ false ∷ true ∷ false ∷ false ∷ true ∷ []
  pub exclusive : map (opens_conflict Exclusive) open_kinds ≡ true ∷ true ∷ true ∷ true ∷ true ∷ []
