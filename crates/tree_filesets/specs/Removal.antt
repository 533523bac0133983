-- How objects go.
use Rattle.std.specs.Prelude.{ℕ, Bool, true, false, List, [], ◌∷◌, Result, Ok}
use Rattle.base_types.specs.Outcomes.{and_then}
use Rattle.base_types.specs.declared.ids.Fid.{Fid}
use Rattle.base_types.specs.declared.user.User.{User}
use Rattle.tree_calls.specs.declared.part.DirEntry.{DirEntry}
use Rattle.tree_calls.specs.declared.reply.Refusal.{Refusal}
use Rattle.tree_calls.specs.declared.reply.Refusal.TheVariants.{ReadOnly, NotEmpty, InUse}
use Rattle.tree_objects.specs.declared.content.Content.{Content}
use Rattle.tree_objects.specs.declared.content.Content.TheVariants.{Dir, File}
use Rattle.tree_objects.specs.Changes.{anode_freed}
use Rattle.tree_objects.specs.Entries.{content_without_entry}
use Rattle.tree_filesets.specs.declared.fileset.Fileset.{Fileset}
use Rattle.tree_filesets.specs.Answers.{Answered, answered}
use Rattle.tree_filesets.specs.Checks.{unless, split_path}
use Rattle.tree_filesets.specs.Updates.{updated, changed}
use Rattle.tree_filesets.specs.Walk.{object_at, found_at, entry_target}

-- whether it is a directory with entries
abbrev pub has_entries : Content → Bool
has_entries (Dir [] lists) = false
has_entries (Dir (entry ∷ entries) lists) = true
has_entries (File list kept unsaved len) = false

-- the fid that an entry of a fileset names
abbrev pub fid_of : Fileset → DirEntry → Fid
fid_of fileset entry = record { fileset = fileset.id; anode = entry.anode; unique = entry.unique }

-- Remove: ReadOnly; empty path InUse; walk to the parent; Denied (delete); NoEntry; NotEmpty; InUse (locked or open).
-- The directory, the name in it, and the anode of the object
unfoldable pub remove_target : Fileset → (Fid → Bool) → User → List (List ℕ) → Result (ℕ × List ℕ × ℕ) Refusal
remove_target fileset in_use user path =
    unless fileset.read_only ReadOnly (
    and_then (split_path path InUse) (λ (name, front).
    and_then (entry_target fileset user front name) (λ (parent, entry).
    and_then (found_at entry.anode (object_at fileset.anodes entry.anode)) (λ (anode, object).
    unless (has_entries object.content) NotEmpty (
    unless (in_use (fid_of fileset entry)) InUse (
    Ok (parent, name, anode)))))))

-- Remove: the object and its unsaved changes go
unfoldable pub remove_answer : Fileset → (Fid → Bool) → User → List (List ℕ) → Answered
remove_answer fileset in_use user path =
    answered fileset (remove_target fileset in_use user path) (λ (parent, name, anode).
    updated (changed fileset parent (content_without_entry name)) anode anode_freed)
