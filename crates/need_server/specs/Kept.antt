-- What servers keep of a tree.
use Rattle.std.specs.Prelude.{map, [], None}
use Rattle.tree_objects.specs.declared.content.Content.{Content}
use Rattle.tree_objects.specs.declared.content.Content.TheVariants.{Dir, File}
use Rattle.tree_objects.specs.Changes.{anode_changed}
use Rattle.tree_filesets.specs.declared.fileset.Fileset.{Fileset}
use Rattle.tree_answers.specs.declared.tree.Tree.{Tree}
use Rattle.tree_answers.specs.Finding.{Answer}

-- what is kept of a content: nothing in it is unsaved
abbrev pub content_settled : Content → Content
content_settled (Dir entries lists) = Dir entries lists
content_settled (File list kept unsaved len) = File list kept [] None

-- what is kept of a fileset, and of a tree
abbrev pub kept_fileset : Fileset → Fileset
kept_fileset fileset = record fileset { anodes = map (anode_changed content_settled) fileset.anodes }

abbrev pub kept_tree : Tree → Tree
kept_tree tree = record tree { filesets = map kept_fileset tree.filesets }

-- an answer of which only what is kept counts
abbrev pub kept_answer : Answer → Answer
kept_answer answer = record { reply = answer.reply; tree = kept_tree answer.tree }
