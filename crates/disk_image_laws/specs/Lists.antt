-- An access list in a block, as it is saved and as it is read to judge a disk.
use Rattle.std.specs.Prelude.{◌≡◌, ℕ, List, Some, length}
use Rattle.base_types.specs.Image.{AreBytes, byte_at}
use Rattle.base_types.specs.declared.access.AccessEntry.{AccessEntry}
use Rattle.disk_lists.specs.Lists.{HoldsList}
use Rattle.disk_image.specs.Lists.{list_in}

-- what is saved as a list is read as this list
abbrev pub SavedIsRead : Type 0
SavedIsRead = (entries : List AccessEntry) (block : List ℕ) → length block ≡ 1024 → AreBytes block
    → HoldsList entries (byte_at block) → list_in block ≡ Some entries

-- and what is read as a list was saved as it
abbrev pub ReadIsSaved : Type 0
ReadIsSaved = (entries : List AccessEntry) (block : List ℕ) → length block ≡ 1024 → AreBytes block
    → list_in block ≡ Some entries → HoldsList entries (byte_at block)
