-- What a disk without faults holds.
use Rattle.std.specs.Prelude.{◌≡◌, ◌<◌, ℕ, List, [], Some, true}
use Rattle.tree_filesets.specs.WellFormed.{IsWellFormed}
use Rattle.disk_image.specs.Aggregate.{Aggregate}
use Rattle.disk_image.specs.Joined.{joined}
use Rattle.disk_image.specs.Slots.{state_at, is_whole, is_slot_header}
use Rattle.disk_image.specs.Anodes.{anode_faults}
use Rattle.disk_image.specs.Reach.{reach_faults}
use Rattle.disk_image.specs.Faults.{faults_in}
use Rattle.disk_image.specs.Image.{Image, image_of, fileset_of}

-- Where an aggregate has no faults, each fileset that is writable, a clone or leaving is a tree: each of its objects is
-- reached from its root by one path, under its unique number, and nothing else is. Of one that arrives nothing is said.
abbrev pub FilesetsAreFormed : Type 0
FilesetsAreFormed = (disk : Aggregate) → faults_in disk ≡ [] → (slot : ℕ) → slot < 16
    → is_whole (state_at disk slot) ≡ true → IsWellFormed (fileset_of disk slot)

-- And a fileset that is a tree has no faults of reach, where its slot's header and anodes are right.
abbrev pub FormedIsReached : Type 0
FormedIsReached = (disk : Aggregate) (slot : ℕ) → is_slot_header disk slot ≡ true
    → joined (anode_faults disk slot) 64 ≡ [] → IsWellFormed (fileset_of disk slot) → reach_faults disk slot ≡ []

-- a disk has at most one image, for one server
abbrev pub ImageIsOne : Type 0
ImageIsOne = (image : List ℕ) (a b : ℕ) (x y : Image) → image_of a image ≡ Some x → image_of b image ≡ Some y
    → (a ≡ b) × (x ≡ y)
