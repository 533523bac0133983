-- A tree that a run can start from.
use Rattle.std.specs.Prelude.{◌≡◌, Bool, true, ◌&&◌, not, length}
use Rattle.std.specs.List.{list_all}
use Rattle.tree_filesets.specs.WellFormed.{is_at_rest}
use Rattle.tree_answers.specs.WellFormed.{ids_rise, names_differ, is_declared, is_given, AreRecords, IsWellFormed}
use Rattle.tree_answers.specs.declared.tree.Tree.{Tree}
use Rattle.service_starts.specs.Rooms.{AreWithin}

-- It is well formed, nothing is unsaved, and no server keeps room for a fileset that left it.
pub record IsStartable (tree : Tree) : Type 0 where
  pub formed : IsWellFormed tree
  pub rest : list_all is_at_rest tree.filesets ≡ true
  pub rooms : list_all (λ away. not away.room_kept) tree.away ≡ true

-- whether its filesets are in order, no server has two of one name, each is at a server that is there, and no server
-- gives the number of one again
abbrev pub filesets_agree : Tree → Bool
filesets_agree tree =
    ids_rise tree.filesets && names_differ tree.filesets
    && list_all (λ fileset. is_declared (length tree.servers) fileset.server) tree.filesets
    && list_all (λ fileset. is_given tree.servers fileset.id) tree.filesets

-- its filesets, its records and the servers' rooms agree, and no room is kept
pub record Agrees (tree : Tree) : Type 0 where
  pub filesets : filesets_agree tree ≡ true
  pub away : AreRecords tree
  pub rooms : list_all (λ away. not away.room_kept) tree.away ≡ true
  pub within : AreWithin tree
