-- What keeps apart what hosts have unsaved.
use Rattle.std.specs.Prelude.{◌≡◌, true, false, Bool}
use Rattle.std.specs.List.{list_all}
use Rattle.base_types.specs.declared.ids.HostId.{HostId}
use Rattle.tree_calls.specs.declared.entry.Entry.{Entry}
use Rattle.tree_calls.specs.declared.roster.Roster.{Roster}
use Rattle.tree_objects.specs.declared.content.Content.{Content}
use Rattle.tree_answers.specs.declared.tree.Tree.{Tree}
use Rattle.tree_answers.specs.Founding.{new_tree}
use Rattle.tree_answers.specs.Histories.{IsLegal, after_entry}
use Rattle.tree_filesets.specs.WellFormed.{is_at_rest}
use Rattle.tree_saving.specs.Unsaved.{all_contents, has_saved, is_by_one, writes_alone, is_write_by}

-- what each file has unsaved stays one host's under each legal entry, where a write isn't to a file in which another
-- host has something unsaved
abbrev pub StaysApart : Type 0
StaysApart = (tree : Tree) (entry : Entry) →
    IsLegal tree entry → all_contents is_by_one tree ≡ true → writes_alone tree entry ≡ true →
    all_contents is_by_one (after_entry tree entry) ≡ true

-- a host that has saved all has so until it writes
abbrev pub StaysSaved : Type 0
StaysSaved = (tree : Tree) (entry : Entry) (host : HostId) →
    all_contents (has_saved host) tree ≡ true → is_write_by host entry ≡ false →
    all_contents (has_saved host) (after_entry tree entry) ≡ true

-- where each host has saved all, nothing is unsaved
abbrev pub SavedIsAtRest : Type 0
SavedIsAtRest = (tree : Tree) →
    ((host : HostId) → all_contents (has_saved host) tree ≡ true) → list_all is_at_rest tree.filesets ≡ true

-- a new tree has no objects
abbrev pub StartsWithout : Type 0
StartsWithout = (roster : Roster) (test : Content → Bool) → all_contents test (new_tree roster) ≡ true

-- no entry changes the roster
abbrev pub RosterStays : Type 0
RosterStays = (tree : Tree) (entry : Entry) → (after_entry tree entry).roster ≡ tree.roster
