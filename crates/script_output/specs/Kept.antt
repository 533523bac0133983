-- The lines of an object whose bytes are all kept.
use Rattle.std.specs.Prelude.{ℕ, List, ◌++◌, length, flat_map, codes}
use Rattle.tree_objects.specs.declared.content.Content.{Content}
use Rattle.tree_objects.specs.declared.content.Content.TheVariants.{Dir, File}
use Rattle.tree_objects.specs.declared.content.Object.{Object}
use Rattle.script_output.specs.Dump.{head_line, dir_lists, list_line, run_line, runs_of}

-- the lines of an object that contains this, a file its kept bytes alone
abbrev pub content_lines : List ℕ → Object → Content → List ℕ
content_lines path object (Dir entries lists) = head_line (codes "dir ") path (length entries) object ++ dir_lists lists
content_lines path object (File list kept unsaved len) =
    head_line (codes "file ") path (length kept) object
    ++ list_line (codes " list ") list ++ flat_map run_line (runs_of kept)
