-- Laws of filesets that move.
use Rattle.std.specs.Prelude.{◌≡◌, ◌⊎◌, ℕ, ◌+◌, ◌==◌, Bool, true, false, List, slice_get, Some, Ok}
use Rattle.std.specs.List.{find, list_all}
use Rattle.base_types.specs.declared.ids.FilesetId.{FilesetId}
use Rattle.base_types.specs.declared.ids.HostId.{HostId}
use Rattle.base_types.specs.declared.ids.ServerId.{ServerId}
use Rattle.tree_calls.specs.declared.call.Call.TheVariants.{MoveFileset}
use Rattle.tree_calls.specs.declared.entry.Entry.{Entry}
use Rattle.tree_calls.specs.declared.entry.Entry.TheVariants.{Call}
use Rattle.tree_calls.specs.declared.reply.Reply.TheVariants.{Ok as Done}
use Rattle.tree_calls.specs.declared.roster.Roster.{Roster}
use Rattle.tree_calls.specs.Limits.{keeps_limits}
use Rattle.tree_filesets.specs.declared.fileset.Fileset.{Fileset}
use Rattle.tree_filesets.specs.Founding.{moved}
use Rattle.tree_answers.specs.declared.tree.Tree.{Tree}
use Rattle.tree_answers.specs.Answers.{answer_to}
use Rattle.tree_answers.specs.Finding.{has_id, fileset_named}
use Rattle.tree_answers.specs.Founding.{new_tree}
use Rattle.tree_answers.specs.Histories.{IsLegal, after_entry, IsHistory, after_history}
use Rattle.tree_answers.specs.WellFormed.{IsWellFormed, is_limited}

-- whatever the history, no two filesets have one id: a fileset is at one server
abbrev pub FilesetsAreOnce : Type 0
FilesetsAreOnce =
    (roster : Roster) (entries : List Entry) (i j : ℕ) (a b : Fileset) →
    keeps_limits roster ≡ true → IsHistory (new_tree roster) entries → list_all is_limited entries ≡ true →
    slice_get (after_history (new_tree roster) entries).filesets i ≡ Some a →
    slice_get (after_history (new_tree roster) entries).filesets j ≡ Some b → a.id.0 ≡ b.id.0 → i ≡ j

-- A move that is done. The fileset that the name led to is at the other server, and the name leads to it still. Every
-- other fileset is as before.
pub record MovesAreWhole : Type 0 where
  pub led : (tree : Tree) (host : HostId) (server : ServerId) (name : List ℕ) (to : ServerId) → IsWellFormed tree →
      (answer_to tree host (MoveFileset server name to)).reply ≡ Done →
      (old : Fileset) × (fileset_named tree server name ≡ Ok old)
      × (fileset_named (answer_to tree host (MoveFileset server name to)).tree server name ≡ Ok (moved old to))
  pub others : (tree : Tree)
      (host : HostId) (server : ServerId) (name : List ℕ) (to : ServerId) (old : Fileset) (id : FilesetId)
      → IsWellFormed tree → fileset_named tree server name ≡ Ok old → (old.id.0 == id.0) ≡ false
      → find (has_id id) (answer_to tree host (MoveFileset server name to)).tree.filesets
      ≡ find (has_id id) tree.filesets

-- whether an entry is a call that moves a fileset
abbrev pub is_move : Entry → Bool
is_move (Call host k (MoveFileset server name to) reply) = true
is_move _ = false

-- No entry lets a fileset go. One that isn't a move leaves it where it is, and its number of moves; a move leaves both,
-- or adds one to that number.
abbrev pub MovesCount : Type 0
MovesCount =
    (tree : Tree) (entry : Entry) (id : FilesetId) (old : Fileset) →
    IsWellFormed tree → IsLegal tree entry → is_limited entry ≡ true → find (has_id id) tree.filesets ≡ Some old →
    (new : Fileset) × (find (has_id id) (after_entry tree entry).filesets ≡ Some new)
    × ((new.server ≡ old.server) × (new.moves ≡ old.moves) ⊎ (is_move entry ≡ true) × (new.moves ≡ old.moves + 1))
