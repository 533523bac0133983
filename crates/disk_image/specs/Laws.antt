-- What makes the definitions of faults believable.
use Rattle.std.specs.Prelude.{◌≡◌, ◌≤◌, ◌<◌, ◌⊎◌, ◌↔◌, ℕ, ◌+◌, ◌-◌, ◌/◌, List, [], Some, true, is_some}
use Rattle.std.specs.List.{AllByRecursion}
use Rattle.disk_layout.specs.Places.{page_start, block_start, pages_of}
use Rattle.disk_layout.specs.Superblock.{IsBlank, IsSuperblock}
use Rattle.disk_layout.specs.declared.superblock.Superblock.{Superblock}
use Rattle.disk_image.specs.Aggregate.{Aggregate, is_blank, superblock_of, header_number, anode_number}
use Rattle.disk_image.specs.Faults.{faults_of, faults_in}
use Rattle.disk_image.specs.Image.{image_of}
use Rattle.disk_image.specs.declared.fault.Fault.{Fault}
use Rattle.disk_image.specs.declared.fault.Rule.{Rule}
use Rattle.disk_image.specs.declared.fault.Rule.TheVariants as rules

-- a blank disk has no faults
abbrev pub BlankHasNone : Type 0
BlankHasNone = (image : List ℕ) → IsBlank image → faults_of image ≡ []

-- a disk is blank, and has a superblock of an aggregate, exactly where the log says so
abbrev pub BlankIsBlank : Type 0
BlankIsBlank = (image : List ℕ) → (is_blank image ≡ true) ↔ IsBlank image

abbrev pub SuperblockIsOne : Type 0
SuperblockIsOne = (image : List ℕ) (superblock : Superblock) →
    (superblock_of image ≡ Some superblock) ↔ (IsSuperblock superblock image × (1 ≤ superblock.server)
    × (superblock.server ≤ 4) × (1092 ≤ superblock.blocks))

-- a disk has an image for a server exactly where it isn't blank, its superblock names the server, and it has no
-- faults
abbrev pub ImageIsThere : Type 0
ImageIsThere = (server : ℕ) (image : List ℕ) →
    (is_some (image_of server image) ≡ true)
    ↔ ((IsBlank image → ⊥) × (faults_of image ≡ []) × ((superblock : Superblock)
    × (superblock_of image ≡ Some superblock) × (superblock.server ≡ server)))

-- where a slot's pages, its anodes and the blocks of an aggregate stand
abbrev pub IsAnodePlace : ℕ → Type 0
IsAnodePlace place = (slot : ℕ) × (i : ℕ) × (slot < 16) × (i < 64) × (place ≡ page_start (anode_number slot i))

abbrev pub IsBlockPlace : ℕ → ℕ → Type 0
IsBlockPlace blocks place = (block : ℕ) × (block < blocks) × (place ≡ block_start (pages_of blocks) block)

-- where a fault lies: in the part of the disk that its rule speaks of
abbrev pub LiesIn : ℕ → Rule → ℕ → Type 0
LiesIn blocks rules.Superblock place = place ≡ 0
LiesIn blocks rules.Log place = place ≡ 512
LiesIn blocks rules.ServerPage place = place ≡ page_start 0
LiesIn blocks rules.CallNumbers place = (place ≡ page_start 1) ⊎ ((slot : ℕ) × (slot < 16)
    × (place ≡ page_start (header_number slot + 1)))
LiesIn blocks rules.SlotHeader place = (slot : ℕ) × (slot < 16) × (place ≡ page_start (header_number slot))
LiesIn blocks rules.Anode place = IsAnodePlace place
LiesIn blocks rules.ListBlock place = IsBlockPlace blocks place
LiesIn blocks rules.IndirectBlock place = IsBlockPlace blocks place
LiesIn blocks rules.DirectoryBlock place = IsBlockPlace blocks place
LiesIn blocks rules.Reach place = IsAnodePlace place
LiesIn blocks rules.Count place = (p : ℕ) × (p < (blocks + 255) / 256) × (place ≡ page_start (1058 + p))
LiesIn blocks rules.Promises place = place ≡ 0

abbrev pub Lies : ℕ → Fault → Type 0
Lies blocks fault = LiesIn blocks fault.rule fault.place

-- each fault of an aggregate lies there
abbrev pub FaultsLieInParts : Type 0
FaultsLieInParts = (disk : Aggregate) → AllByRecursion (Lies disk.blocks) (faults_in disk)

-- the numbers of the rules are 1 to 12, in the order in which they are named
abbrev pub rule_number : Rule → ℕ
rule_number rules.Superblock = 1
rule_number rules.Log = 2
rule_number rules.ServerPage = 3
rule_number rules.CallNumbers = 4
rule_number rules.SlotHeader = 5
rule_number rules.Anode = 6
rule_number rules.ListBlock = 7
rule_number rules.IndirectBlock = 8
rule_number rules.DirectoryBlock = 9
rule_number rules.Reach = 10
rule_number rules.Count = 11
rule_number rules.Promises = 12
