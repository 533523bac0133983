-- What makes the definitions of trees believable.
use Rattle.std.specs.Prelude.{◌≡◌, ℕ, true, List, Some, Ok}
use Rattle.std.specs.List.{find, list_all}
use Rattle.base_types.specs.declared.ids.HostId.{HostId}
use Rattle.base_types.specs.declared.ids.ServerId.{ServerId}
use Rattle.base_types.specs.declared.ids.FilesetId.{FilesetId}
use Rattle.tree_calls.specs.declared.call.Call.{Call}
use Rattle.tree_calls.specs.declared.call.Call.TheVariants.{CloneFileset}
use Rattle.tree_calls.specs.declared.entry.Entry.{Entry}
use Rattle.tree_calls.specs.declared.reply.Refusal.{Refusal}
use Rattle.tree_calls.specs.declared.reply.Reply.TheVariants.{Ok as Done, Refused}
use Rattle.tree_filesets.specs.declared.fileset.Fileset.{Fileset}
use Rattle.tree_filesets.specs.Founding.{cloned}
use Rattle.tree_filesets.specs.Laws.{bytes_at}
use Rattle.tree_filesets.specs.WellFormed.{is_at_rest}
use Rattle.tree_calls.specs.declared.roster.Roster.{Roster}
use Rattle.tree_answers.specs.declared.tree.Tree.{Tree}
use Rattle.tree_answers.specs.Founding.{new_tree}
use Rattle.tree_answers.specs.Answers.{answer_to}
use Rattle.tree_answers.specs.Finding.{has_id, fileset_named}
use Rattle.tree_answers.specs.Histories.{IsLegal, after_entry, IsHistory, after_history}
use Rattle.tree_calls.specs.Limits.{keeps_limits}
use Rattle.tree_answers.specs.WellFormed.{IsWellFormed, is_limited}

-- a refused call changes nothing
abbrev pub RefusedChangesNothing : Type 0
RefusedChangesNothing = (tree : Tree) (host : HostId) (call : Call) (refusal : Refusal)
    → (answer_to tree host call).reply ≡ Refused refusal → (answer_to tree host call).tree ≡ tree

-- the tree of a roster that keeps the limits is well formed
abbrev pub StartsWellFormed : Type 0
StartsWellFormed = (roster : Roster) → keeps_limits roster ≡ true → IsWellFormed (new_tree roster)

-- a well formed tree stays so under each legal entry that keeps the limits
abbrev pub StaysWellFormed : Type 0
StaysWellFormed = (tree : Tree) (entry : Entry)
    → IsWellFormed tree → IsLegal tree entry → is_limited entry ≡ true → IsWellFormed (after_entry tree entry)

-- A clone that was made is a copy of its source; nothing in it is unsaved; and no later entry, on its source or
-- elsewhere, changes it.
pub record ClonesStay : Type 0 where
  pub made : (tree : Tree) (host : HostId) (server : ServerId) (source new : List ℕ)
      → IsWellFormed tree → (answer_to tree host (CloneFileset server source new)).reply ≡ Done
      → (fileset : Fileset) × (id : FilesetId) × (fileset_named tree server source ≡ Ok fileset)
      × (find (has_id id) (answer_to tree host (CloneFileset server source new)).tree.filesets
      ≡ Some (cloned fileset id new))
  pub bytes : (fileset : Fileset) (id : FilesetId) (new : List ℕ) (anode : ℕ)
      → bytes_at (cloned fileset id new) anode ≡ bytes_at fileset anode
  pub rest : (fileset : Fileset) (id : FilesetId) (new : List ℕ) → is_at_rest (cloned fileset id new) ≡ true
  pub stays : (tree : Tree) (entries : List Entry) (clone : Fileset)
      → IsWellFormed tree → IsHistory tree entries → list_all is_limited entries ≡ true
      → find (has_id clone.id) tree.filesets ≡ Some clone → clone.read_only ≡ true → is_at_rest clone ≡ true
      → find (has_id clone.id) (after_history tree entries).filesets ≡ Some clone
