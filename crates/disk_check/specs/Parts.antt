-- The blocks that an anode names, as they were read.
use Rattle.std.specs.Prelude.{◌≡◌, ℕ}
use Rattle.disk_anode.specs.Node.{pointer_of}
use Rattle.disk_image.specs.Aggregate.{Aggregate, node_at, block_under}
use Rattle.disk_image.specs.Anodes.{entry_bytes}
use Rattle.disk_check.specs.declared.parts.Parts.{Parts}

-- these are the blocks of the lists of an anode, its indirect block, and the bytes of its entries
pub record AreParts (disk : Aggregate) (slot i : ℕ) (parts : Parts) : Type 0 where
  pub own : parts.own ≡ block_under disk (pointer_of (node_at disk slot i) 0)
  pub files : parts.files ≡ block_under disk (pointer_of (node_at disk slot i) 1)
  pub dirs : parts.dirs ≡ block_under disk (pointer_of (node_at disk slot i) 2)
  pub map : parts.map ≡ (node_at disk slot i).map
  pub entries : parts.entries.items ≡ entry_bytes disk slot i
