-- What entries leave of what servers keep.
use Rattle.std.specs.Prelude.{Bool, [], false, map, true, ◌≡◌}
use Rattle.base_types.specs.declared.ids.Fid.{Fid}
use Rattle.base_types.specs.declared.ids.HostId.{HostId}
use Rattle.base_types.specs.declared.ids.ServerId.{ServerId}
use Rattle.tree_calls.specs.declared.call.Call.{Call}
use Rattle.tree_calls.specs.declared.call.Call.TheVariants.{CloseFile, GetAcl, List as ListNames, Lock, OpenFile, Read}
use Rattle.tree_calls.specs.declared.call.Call.TheVariants.{Stat, Sync, Unlock, Write}
use Rattle.tree_answers.specs.Answers.{answer_to}
use Rattle.tree_answers.specs.Losses.{down_tree, is_at}
use Rattle.tree_answers.specs.WellFormed.{IsWellFormed}
use Rattle.tree_answers.specs.declared.tree.Tree.{Tree}
use Rattle.need_server.specs.Kept.{kept_fileset}
use Rattle.need_laws.specs.Known.{IsAt}
use Rattle.tree_laws.specs.Parts.{Part, cell_at}

-- all that servers keep is the same: only what is unsaved, or in use, may differ
pub record KeepsAll (old new : Tree) : Type 0 where
  pub roster : new.roster ≡ old.roster
  pub servers : new.servers ≡ old.servers
  pub away : new.away ≡ old.away
  pub filesets : map kept_fileset new.filesets ≡ map kept_fileset old.filesets

-- whether a host may answer a call by itself: it tells, writes, or is about what is in use
abbrev pub is_answered_alone : Call → Bool
is_answered_alone (Read place from len) = true
is_answered_alone (Write place from bytes) = true
is_answered_alone (ListNames place) = true
is_answered_alone (Stat place) = true
is_answered_alone (GetAcl place which) = true
is_answered_alone (Sync place) = true
is_answered_alone (Lock label place writing from len) = true
is_answered_alone (Unlock label) = true
is_answered_alone (OpenFile label place kind) = true
is_answered_alone (CloseFile label) = true
is_answered_alone _ = false

-- a Sync changes kept parts where something is unsaved; else no such call does
abbrev pub CallsKeepAll : Type 0
CallsKeepAll =
    (tree : Tree) (host : HostId) (call : Call) → IsWellFormed tree → is_answered_alone call ≡ true →
    ((fid : Fid) (part : Part) →
    (cell_at (answer_to tree host call).tree fid part).kept ≡ (cell_at tree fid part).kept) →
    KeepsAll tree (answer_to tree host call).tree

abbrev pub DownsKeepAll : Type 0
DownsKeepAll = (tree : Tree) (host : HostId) (server : ServerId) → KeepsAll tree (down_tree tree host server)

-- a call at a server leaves each part of an object whose fileset isn't there, before it and after it
abbrev pub CallsLeaveOthers : Type 0
CallsLeaveOthers =
    (tree : Tree) (server : ServerId) (host : HostId) (call : Call) (fid : Fid) (part : Part) →
    tree.away ≡ [] → IsAt server call → is_at tree.filesets server fid.fileset ≡ false →
    is_at (answer_to tree host call).tree.filesets server fid.fileset ≡ false →
    cell_at (answer_to tree host call).tree fid part ≡ cell_at tree fid part
