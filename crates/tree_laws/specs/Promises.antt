-- The blocks that filesets are promised, as numbers.
use Rattle.std.specs.Prelude.{◌≡◌, ◌≤◌, ◌<◌, ℕ, ◌+◌, ◌*◌, true, false, List, ◌∷◌, Option, Some, None}
use Rattle.base_types.specs.declared.access.AccessEntry.{AccessEntry}
use Rattle.tree_calls.specs.declared.part.DirEntry.{DirEntry}
use Rattle.tree_objects.specs.declared.content.Content.TheVariants.{Dir, File}
use Rattle.tree_objects.specs.declared.content.Anode.{Anode}
use Rattle.tree_objects.specs.declared.content.Object.{Object}
use Rattle.tree_objects.specs.declared.content.Unsaved.{Unsaved}
use Rattle.tree_objects.specs.declared.content.UnsavedLength.{UnsavedLength}
use Rattle.tree_objects.specs.Objects.{told_length, blocks_of}
use Rattle.tree_filesets.specs.declared.fileset.Fileset.{Fileset}
use Rattle.tree_filesets.specs.Promises.{anode_blocks, clone_promise, promise}

-- The blocks of a file beside 4: they hold its bytes, and one block less wouldn't.
pub record HoldsBytes (len blocks : ℕ) : Type 0 where
  pub enough : len ≤ 1024 * blocks
  pub least : 1024 * blocks < len + 1024

pub record PromisesAreSo : Type 0 where
  -- a directory takes 9 blocks, and a file 4 and those of its bytes, as readers see it
  pub directory : (entries : List DirEntry) (lists : List (List AccessEntry)) → blocks_of (Dir entries lists) ≡ 9
  pub file : (list : List AccessEntry) (kept : List ℕ) (unsaved : List Unsaved) (len : Option UnsavedLength) →
      let content = File list kept unsaved len in
      (blocks : ℕ) × (blocks_of content ≡ 4 + blocks) × HoldsBytes (told_length content) blocks
  -- so 1,024 bytes take 5 blocks, 1,025 bytes 6, and the greatest file 68
  -- a clone is promised what its objects take, together
  pub object : (unique : ℕ) (object : Object) →
      anode_blocks (record { unique = unique; object = Some object }) ≡ blocks_of object.content
  pub nothing : (unique : ℕ) → anode_blocks (record { unique = unique; object = None }) ≡ 0
  pub clone : (fileset : Fileset) (anode : Anode) (anodes : List Anode) → fileset.anodes ≡ anode ∷ anodes →
      clone_promise fileset ≡ anode_blocks anode + clone_promise (record fileset { anodes = anodes })
  pub read_only : (fileset : Fileset) → fileset.read_only ≡ true → promise fileset ≡ clone_promise fileset
  -- any other fileset is promised 68 blocks for each object that it may have
  pub writable : (fileset : Fileset) → fileset.read_only ≡ false → promise fileset ≡ 68 * fileset.objects
