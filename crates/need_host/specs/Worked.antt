-- Worked looks: what some calls look at in small trees, and what they need.
use Rattle.std.specs.Prelude.{◌≡◌, true, false, List, [], ◌∷◌, Some, codes, None, if◌then◌else◌}
use Rattle.base_types.specs.Name.{same_name}
use Rattle.base_types.specs.declared.ids.FilesetId.{FilesetId}
use Rattle.base_types.specs.declared.ids.Fid.{Fid}
use Rattle.base_types.specs.declared.ids.OpenKind.TheVariants.{Writing}
use Rattle.base_types.specs.declared.ids.ServerId.{ServerId}
use Rattle.tree_calls.specs.declared.call.Call.{Call}
use Rattle.tree_calls.specs.declared.call.Call.TheVariants.{Create, Read, Write, List as ListNames, Stat, GetAcl, Sync}
use Rattle.tree_calls.specs.declared.call.Call.TheVariants.{CloneFileset, Lock, Unlock, OpenFile, MoveFileset}
use Rattle.tree_calls.specs.declared.place.Which.TheVariants.{Files}
use Rattle.tree_calls.specs.declared.reply.Refusal.TheVariants.{
  NoEntry,
  NotDir,
  Denied,
  TooBig,
  NotLocked,
  AlreadyLocked,
}
use Rattle.tree_calls.specs.declared.reply.Reply.TheVariants.{Ok as Done, Bytes, Names, Refused}
use Rattle.tree_objects.specs.Spans.{span_between, whole}
use Rattle.tree_answers.specs.declared.tree.Tree.{Tree}
use Rattle.tree_answers.specs.Founding.{new_tree}
use Rattle.tree_answers.specs.Worked.{tree_after, ann, bob, c1, c2, server, new_home, home_with_note, written_by_both}
use Rattle.tree_answers.specs.Worked.{in_home, note, folder}
use Rattle.token_types.specs.declared.token.Kind.{Kind}
use Rattle.token_types.specs.declared.token.Kind.TheVariants.{Bytes as BytesKind, Status, Lock as LockKind, Opening}
use Rattle.token_types.specs.declared.token.Need.{Need}
use Rattle.need_host.specs.Looks.{tree_view, outcome, needs_of}
use Rattle.need_host.specs.Questions.Question.{EnterAt, ChangeIn, ChangeAt}
use Rattle.need_host.specs.Calls.{Verdict, Own, call_look}
use Rattle.need_host.specs.Calls.Verdict.{Replies, Locks, Frees, Gives, Asks}

-- the fileset "home", its root, and the file "note" in it
abbrev pub home_id : FilesetId
home_id = record { 0 = 65537 }

abbrev pub root : Fid
root = record { fileset = home_id; anode = 1; unique = 1 }

abbrev pub note_fid : Fid
note_fid = record { fileset = home_id; anode = 2; unique = 1 }

-- a host that has seen "home" and has nothing
abbrev pub idle : Own
idle = record {
  locks = [];
  opens = [];
  gives_lock = λ label. false;
  gives_open = λ label. false;
  is_clean = λ fid. true;
  seen = λ server name. if same_name name (codes "home") then Some home_id else None;
}

-- c1 with a lock "w" of the first two bytes of "note"; whose end the server has to take; with changes of files
abbrev pub locking : Own
locking = record idle {
  locks = record { host = c1; label = codes "w"; fid = note_fid; writing = true; span = span_between 0 2 } ∷ [];
}

abbrev pub pinned : Own
pinned = record locking { gives_lock = λ label. true }

abbrev pub dirty : Own
dirty = record idle { is_clean = λ fid. false }

-- a host that hasn't seen any fileset
abbrev pub new_come : Own
new_come = record idle { seen = λ server name. None }

-- what ann's host makes of a call in a tree, and what it needs
abbrev pub made_of : Own → Tree → Call → Verdict
made_of own tree call = outcome (tree_view tree) (call_look own c1 ann call)

abbrev pub needed_by : Own → Tree → Call → List Need
needed_by own tree call = needs_of (tree_view tree) (call_look own c1 ann call)

abbrev pub of : Fid → Kind → Need
of fid kind = record { fid = fid; kind = kind }

-- the needs of the walk to "note"
abbrev pub walk_needs : List Need → List Need
walk_needs rest = of root (Status false) ∷ of root (BytesKind false whole) ∷ of note_fid (Status false) ∷ rest

abbrev pub second : ServerId
second = record { 0 = 2 }

-- the tree in which "home" with "ab" in "note" has moved to the second server
abbrev pub moved_home : Tree
moved_home = tree_after (new_tree (record {
  users = ann ∷ bob ∷ [];
  hosts = record { user = 0; limit = 64 } ∷ record { user = 1; limit = 64 } ∷ [];
  capacity = 16384 ∷ 16384 ∷ [];
})) (
    new_home 3 ∷ (c1, Create (in_home note)) ∷ (c1, Write (in_home note) 0 (codes "ab")) ∷
    (c1, MoveFileset server (codes "home") second) ∷ [])

pub record WorkedLooks : Type 0 where
  -- a Read of two bytes needs, after the walk, the length and the block of each byte
  pub reads : made_of idle written_by_both (Read (in_home note) 0 2) ≡ Replies (Bytes (codes "ax"))
  pub read_needs : needed_by idle written_by_both (Read (in_home note) 0 2)
      ≡ walk_needs (of note_fid (Status false) ∷ of note_fid (BytesKind false (span_between 0 1024)) ∷
      of note_fid (BytesKind false (span_between 0 1024)) ∷ [])
  -- behind the end nothing is read, and no bytes are needed
  pub end_needs : needed_by idle written_by_both (Read (in_home note) 4 2)
      ≡ walk_needs (of note_fid (Status false) ∷ [])
  -- a Write within the length needs bytes for update; beyond it also the status, and the bytes from the length on
  pub within_needs : needed_by idle written_by_both (Write (in_home note) 1 (codes "y"))
      ≡ of root (Status false) ∷
      walk_needs (of note_fid (Status false) ∷ of note_fid (BytesKind true (span_between 0 1024)) ∷ [])
  pub beyond_needs : needed_by idle written_by_both (Write (in_home note) 2000 (codes "y"))
      ≡ of root (Status false) ∷
      walk_needs (of note_fid (Status false) ∷ of note_fid (Status true) ∷
      of note_fid (BytesKind true (span_between 0 2048)) ∷ [])
  -- a Write of no bytes changes nothing, and needs no token of the file but its status
  pub no_bytes : made_of idle written_by_both (Write (in_home note) 9 []) ≡ Replies Done
  pub no_bytes_needs : needed_by idle written_by_both (Write (in_home note) 9 [])
      ≡ of root (Status false) ∷ walk_needs []
  -- a List needs all bytes of the directory, a Stat the status twice, a GetAcl once
  pub lists : made_of idle home_with_note (ListNames (in_home [])) ≡ Replies (Names (codes "note" ∷ []))
  pub list_needs : needed_by idle home_with_note (ListNames (in_home []))
      ≡ of root (Status false) ∷ of root (BytesKind false whole) ∷ []
  pub stat_needs : needed_by idle home_with_note (Stat (in_home note)) ≡ walk_needs (of note_fid (Status false) ∷ [])
  pub access : made_of idle home_with_note (GetAcl (in_home note) Files) ≡ Replies (Refused NotDir)
  pub access_needs : needed_by idle home_with_note (GetAcl (in_home note) Files) ≡ walk_needs []
  -- a name that isn't there needs the directory alone
  pub missing : made_of idle home_with_note (Stat (in_home folder)) ≡ Replies (Refused NoEntry)
  pub missing_needs : needed_by idle home_with_note (Stat (in_home folder))
      ≡ of root (Status false) ∷ of root (BytesKind false whole) ∷ []
  -- a Sync with changes gives them back; without any it is answered, and needs the walk
  pub syncs : made_of dirty written_by_both (Sync (in_home note)) ≡ Gives
  pub synced : made_of idle written_by_both (Sync (in_home note)) ≡ Replies Done
  pub sync_needs : needed_by idle written_by_both (Sync (in_home note)) ≡ walk_needs []
  -- bob may not lock ann's file for writing, which needs the walk alone; ann's lock needs its exact token
  pub denied : outcome (tree_view home_with_note) (call_look idle c2 bob (Lock (codes "w") (in_home note) true 0 2))
      ≡ Replies (Refused (Denied 2))
  pub denied_needs :
      needs_of (tree_view home_with_note) (call_look idle c2 bob (Lock (codes "w") (in_home note) true 0 2))
      ≡ walk_needs []
  pub locks : made_of idle home_with_note (Lock (codes "w") (in_home note) true 0 2)
      ≡ Locks note_fid true (span_between 0 2)
  pub lock_needs : needed_by idle home_with_note (Lock (codes "w") (in_home note) true 0 2)
      ≡ walk_needs (of note_fid (LockKind true (span_between 0 2)) ∷ [])
  pub big : made_of idle home_with_note (Lock (codes "w") (in_home note) true 1 65536) ≡ Replies (Refused TooBig)
  pub open_needs : needed_by idle home_with_note (OpenFile (codes "o") (in_home note) Writing)
      ≡ walk_needs (of note_fid (Opening Writing) ∷ [])
  -- a label that is in use needs nothing, and is refused; another one may not overlap its lock
  pub used : made_of locking home_with_note (Lock (codes "w") (in_home note) true 4 2)
      ≡ Replies (Refused AlreadyLocked)
  pub used_needs : needed_by locking home_with_note (Lock (codes "w") (in_home note) true 4 2) ≡ []
  pub overlaps : made_of locking home_with_note (Lock (codes "r") (in_home note) false 1 2)
      ≡ Replies (Refused AlreadyLocked)
  -- the end of a label needs nothing. Where the server has to take it the call waits, also once it was given back
  pub frees : made_of locking home_with_note (Unlock (codes "w")) ≡ Frees
  pub gives : made_of pinned home_with_note (Unlock (codes "w")) ≡ Gives
  pub unlock_needs : needed_by pinned home_with_note (Unlock (codes "w")) ≡ []
  pub unused : made_of idle home_with_note (Unlock (codes "w")) ≡ Replies (Refused NotLocked)
  -- a Change is asked of the server, and so is the number of a fileset
  pub asks : made_of idle home_with_note (Create (in_home folder)) ≡ Asks (ChangeIn home_id)
  pub enters : made_of new_come home_with_note (Stat (in_home note)) ≡ Asks (EnterAt server)
  pub enter_needs : needed_by new_come home_with_note (Stat (in_home note)) ≡ []
  pub clones : made_of idle home_with_note (CloneFileset server (codes "home") (codes "copy")) ≡ Asks (ChangeAt server)
  pub moves : made_of idle home_with_note (MoveFileset server (codes "home") second) ≡ Asks (ChangeIn home_id)
  -- a fileset that has moved is seen under its old place
  pub moved : made_of idle moved_home (Read (in_home note) 0 9) ≡ Replies (Bytes (codes "ab"))
