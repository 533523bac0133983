-- The entries of a directory, in the order of their names.
use Rattle.std.specs.Prelude.{ℕ, not, List, length, map, filter, insert, Option, unwrap_or}
use Rattle.std.specs.List.{find, position}
use Rattle.base_types.specs.Name.{same_name, is_before}
use Rattle.tree_calls.specs.declared.part.DirEntry.{DirEntry}
use Rattle.tree_objects.specs.declared.content.Content.{Content}
use Rattle.tree_objects.specs.declared.content.Content.TheVariants.{Dir, File}

-- the entry of a name
abbrev pub entry_named : List DirEntry → List ℕ → Option DirEntry
entry_named entries name = find (λ entry. same_name entry.name name) entries

-- the names of the entries
abbrev pub names_of : List DirEntry → List (List ℕ)
names_of entries = map (λ entry. entry.name) entries

-- where a name goes: before the first entry with a greater name
abbrev pub entry_place : List DirEntry → List ℕ → ℕ
entry_place entries name = unwrap_or (position (λ entry. is_before name entry.name) entries) (length entries)

-- a directory with an entry more
abbrev pub content_with_entry : DirEntry → Content → Content
content_with_entry entry (Dir entries lists) = Dir (insert entries (entry_place entries entry.name) entry) lists
content_with_entry entry (File list kept unsaved len) = File list kept unsaved len

-- a directory without the entry of a name
abbrev pub content_without_entry : List ℕ → Content → Content
content_without_entry name (Dir entries lists) = Dir (filter (λ entry. not (same_name entry.name name)) entries) lists
content_without_entry name (File list kept unsaved len) = File list kept unsaved len
