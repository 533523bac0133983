-- The blocks that filesets are promised.
use Rattle.std.specs.Prelude.{ℕ, ◌*◌, if◌then◌else◌}
use Rattle.std.specs.List.{sum_by}
use Rattle.std.specs.Option.{option_map_or}
use Rattle.tree_objects.specs.declared.content.Anode.{Anode}
use Rattle.tree_objects.specs.Objects.{blocks_of}
use Rattle.tree_filesets.specs.declared.fileset.Fileset.{Fileset}
use Rattle.tree_filesets.specs.declared.promise.TheConstants.{OBJECT_BLOCKS}

-- the blocks that a copy of what stands at an anode is promised
abbrev pub anode_blocks : Anode → ℕ
anode_blocks anode = option_map_or (λ object. blocks_of object.content) anode.object 0

-- the blocks that a clone of a fileset is promised, as the fileset is now
abbrev pub clone_promise : Fileset → ℕ
clone_promise fileset = sum_by anode_blocks fileset.anodes

-- the blocks that a writable fileset with so many objects is promised
abbrev pub new_promise : ℕ → ℕ
new_promise objects = OBJECT_BLOCKS * objects

-- the blocks that a fileset is promised; a clone has nothing unsaved, so that it is promised what it holds
abbrev pub promise : Fileset → ℕ
promise fileset = if fileset.read_only then clone_promise fileset else new_promise fileset.objects
