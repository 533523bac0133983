-- Entries that change nothing that stores keep, where nothing is unsaved.
use Rattle.std.specs.Prelude.{◌≡◌, Bool, true, false, if◌then◌else◌, [], ◌∷◌}
use Rattle.std.specs.List.{list_all}
use Rattle.tree_calls.specs.declared.call.Call.{Call as CallOf}
use Rattle.tree_calls.specs.declared.call.Call.TheVariants.{
  NewFileset,
  Create,
  MakeDir,
  Remove,
  Rename,
  Truncate,
  SetAcl,
  CloneFileset,
  Read,
  Write,
  List as ListNames,
  Stat,
  GetAcl,
  Sync,
  Lock,
  Unlock,
  OpenFile,
  CloseFile,
  MoveFileset,
}
use Rattle.tree_calls.specs.declared.entry.Entry.{Entry}
use Rattle.tree_calls.specs.declared.entry.Entry.TheVariants.{Call, Stored, Down, Left}
use Rattle.tree_calls.specs.declared.reply.Reply.{Reply}
use Rattle.tree_calls.specs.declared.reply.Reply.TheVariants.{Refused}
use Rattle.tree_filesets.specs.WellFormed.{is_at_rest}
use Rattle.tree_answers.specs.declared.tree.Tree.{Tree}
use Rattle.tree_answers.specs.Histories.{IsLegal, after_entry}
use Rattle.store_state.specs.declared.state.StoreState.{StoreState}
use Rattle.store_laws.specs.TreeKeeping.{KeepsOf}

-- whether a call tells, syncs, is about what is in use, or writes no bytes
abbrev pub leaves_kept : CallOf → Bool
leaves_kept (Read place from len) = true
leaves_kept (Write place from []) = true
leaves_kept (Write place from (byte ∷ bytes)) = false
leaves_kept (ListNames place) = true
leaves_kept (Stat place) = true
leaves_kept (GetAcl place which) = true
leaves_kept (Sync place) = true
leaves_kept (Lock label place writing from len) = true
leaves_kept (Unlock label) = true
leaves_kept (OpenFile label place kind) = true
leaves_kept (CloseFile label) = true
leaves_kept (NewFileset server name objects owner) = false
leaves_kept (Create place) = false
leaves_kept (MakeDir place) = false
leaves_kept (Remove place) = false
leaves_kept (Rename from to) = false
leaves_kept (Truncate place len) = false
leaves_kept (SetAcl place which list) = false
leaves_kept (CloneFileset server source new) = false
leaves_kept (MoveFileset server name to) = false

abbrev pub is_refused : Reply → Bool
is_refused (Refused refusal) = true
is_refused _ = false

-- whether an entry is such a call, one that is refused, what a host stores, or that a host is down
abbrev pub is_idle : Entry → Bool
is_idle (Call host k call reply) = if is_refused reply then true else leaves_kept call
is_idle (Stored host fid spans len) = true
is_idle (Down host server) = true
is_idle (Left server id) = false

-- all that servers keep is the same: what is in use may differ
pub record SameKept (old new : Tree) : Type 0 where
  pub roster : new.roster ≡ old.roster
  pub servers : new.servers ≡ old.servers
  pub filesets : new.filesets ≡ old.filesets
  pub away : new.away ≡ old.away

-- Where nothing is unsaved, such an entry leaves all that servers keep, and each store keeps its part as it is.
pub record IdlesAreKept : Type 0 where
  pub same : (tree : Tree) (entry : Entry) → list_all is_at_rest tree.filesets ≡ true → IsLegal tree entry
      → is_idle entry ≡ true → SameKept tree (after_entry tree entry)
  pub kept : (tree : Tree) (entry : Entry) (state : StoreState) → list_all is_at_rest tree.filesets ≡ true
      → IsLegal tree entry → is_idle entry ≡ true → KeepsOf tree state → KeepsOf (after_entry tree entry) state
