-- With what a server starts.
use Rattle.std.specs.Prelude.{[], ◌≡◌}
use Rattle.base_types.specs.declared.ids.ServerId.{ServerId}
use Rattle.tree_answers.specs.declared.tree.Tree.{Tree}
use Rattle.run_contents.specs.Gives.{IsKept}
use Rattle.run_rules.specs.Kept.{filesets_first}

-- From a tree in which no fileset has moved away each server starts with filesets that are well formed, and with
-- nothing unsaved.
abbrev pub StartsKept : Type 0
StartsKept = (tree : Tree) (server : ServerId) → IsKept tree → tree.away ≡ [] → IsKept (filesets_first tree server)
