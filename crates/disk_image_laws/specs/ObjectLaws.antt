-- What an aggregate keeps is what its image has.
use Rattle.std.specs.Prelude.{
  ◌≡◌,
  ◌≢◌,
  ◌≤◌,
  ◌<◌,
  ℕ,
  ◌+◌,
  ◌-◌,
  ◌*◌,
  ◌/◌,
  ◌&&◌,
  Bool,
  true,
  false,
  nat_le,
  is_some,
  List,
  [],
  take,
}
use Rattle.std.specs.List.{list_all}
use Rattle.std.specs.Option.{option_map_or}
use Rattle.base_types.specs.Image.{byte_at}
use Rattle.tree_objects.specs.Objects.{is_dir}
use Rattle.tree_objects.specs.declared.content.Anode.{Anode}
use Rattle.tree_objects.specs.declared.content.Content.{Content}
use Rattle.tree_objects.specs.declared.content.Content.TheVariants.{Dir, File}
use Rattle.tree_filesets.specs.Founding.{unused_anode}
use Rattle.disk_layout.specs.Numbers.{number_at}
use Rattle.disk_space.specs.Counts.{count_page, count_place}
use Rattle.disk_anode.specs.Node.{pointer_of, names}
use Rattle.disk_objects.specs.Holds.{Holds}
use Rattle.disk_image.specs.Aggregate.{Aggregate, page_of, header_page, node_at}
use Rattle.disk_image.specs.Faults.{faults_in}
use Rattle.disk_image.specs.Image.{anode_of, fileset_of}
use Rattle.disk_image.specs.Slots.{state_at, is_slot_free, is_slot_header, usable}
use Rattle.disk_image.specs.Anodes.{is_root_place, anode_faults}
use Rattle.disk_image.specs.Counts.{is_count_page}
use Rattle.disk_image.specs.Joined.{joined, listed}
use Rattle.disk_objects.specs.Objects.{anode_at, kept_anodes, AreKept}

-- The pages and blocks of an aggregate keep these anodes, 64 of each slot. Its bytes are bytes.
pub record Keeps (slots : ℕ → List Anode) (disk : Aggregate) : Type 0 where
  pub held : Holds (kept_anodes slots) disk.blocks (page_of disk) disk.image
  pub each : (slot : ℕ) → slot < 16 → AreKept (slots slot)
  pub bytes : (k : ℕ) → byte_at disk.image k < 256

-- each anode is read as what is kept there
abbrev pub KeptIsRead : Type 0
KeptIsRead = (disk : Aggregate) (slots : ℕ → List Anode) → Keeps slots disk → (slot anode : ℕ) → slot < 16
    → 1 ≤ anode → anode ≤ 64 → anode_of disk slot (anode - 1) ≡ anode_at (slots slot) anode

-- so a fileset of the image has the first of its slot's anodes, up to its limit
abbrev pub FilesetIsRead : Type 0
FilesetIsRead = (disk : Aggregate) (slots : ℕ → List Anode) → Keeps slots disk → (slot : ℕ) → slot < 16
    → number_at 4 8 (header_page disk slot) ≤ 64
    → (fileset_of disk slot).anodes ≡ take (number_at 4 8 (header_page disk slot)) (slots slot)

-- the anodes of a slot, as the image has them
abbrev pub anodes_of : Aggregate → ℕ → List Anode
anodes_of disk slot = listed (anode_of disk slot) 64

-- an aggregate without faults keeps the anodes of its image
abbrev pub FaultlessKeeps : Type 0
FaultlessKeeps = (disk : Aggregate) → faults_in disk ≡ []
    → ((k : ℕ) → byte_at disk.image k < 256) → Keeps (anodes_of disk) disk

-- What else the rules ask of pointers and counts: each pointer is a block's number and one, or zero; a file has one
-- list; no two anodes of a slot name one block; and the counts of no block are zero.
pub record IsInOrder (disk : Aggregate) : Type 0 where
  pub range : (slot i w : ℕ) → slot < 16 → i < 64 → w < 68 → pointer_of (node_at disk slot i) w ≤ disk.blocks
  pub files : (slot i : ℕ) → slot < 16 → i < 64 → byte_at (node_at disk slot i).page 0 ≡ 2
      → (pointer_of (node_at disk slot i) 1 ≡ 0) × (pointer_of (node_at disk slot i) 2 ≡ 0)
  pub apart : (slot i j block : ℕ) → slot < 16 → i < 64 → j < 64 → i ≢ j → block < disk.blocks
      → names (node_at disk slot i) block + names (node_at disk slot j) block ≤ 1
  pub tail : (block : ℕ) → disk.blocks ≤ block → block < 256 * ((disk.blocks + 255) / 256)
      → number_at 2 (count_place block) (page_of disk (count_page block)) ≡ 0

-- so they are where an aggregate has no faults
abbrev pub FaultlessIsInOrder : Type 0
FaultlessIsInOrder = (disk : Aggregate) → faults_in disk ≡ [] → IsInOrder disk

-- and where it keeps anodes
abbrev pub KeptIsInOrder : Type 0
KeptIsInOrder = (disk : Aggregate) (slots : ℕ → List Anode) → Keeps slots disk → IsInOrder disk

-- and counts that are kept are right where the slots are
abbrev pub CountsAreRight : Type 0
CountsAreRight = (disk : Aggregate) (slots : ℕ → List Anode) → Keeps slots disk
    → ((slot : ℕ) → slot < 16 → is_slot_header disk slot ≡ true)
    → ((slot : ℕ) → slot < 16 → joined (anode_faults disk slot) 64 ≡ [])
    → (p : ℕ) → p < (disk.blocks + 255) / 256 → is_count_page disk p ≡ true

-- each entry of a directory leads to an anode that there may be
abbrev pub leads_within : Content → Bool
leads_within (Dir entries lists) = list_all (λ entry. nat_le 1 entry.anode && nat_le entry.anode 64) entries
leads_within (File list kept unsaved len) = true

-- An anode may stand at place i of a slot: a slot that is free has none, one that isn't lets its first ones be
-- used, and the first may have to be a root.
pub record FitsPlace (disk : Aggregate) (slot i : ℕ) (anode : Anode) : Type 0 where
  pub unused : is_slot_free disk slot ≡ true → anode ≡ unused_anode
  pub below : is_some anode.object ≡ true → i < usable (state_at disk slot) (header_page disk slot)
  pub root : is_root_place disk slot i ≡ true
      → (anode.unique ≡ 1) × (option_map_or (λ object. is_dir object.content) anode.object false ≡ true)
  pub within : option_map_or (λ object. leads_within object.content) anode.object true ≡ true

-- anodes that are kept have no faults where they may stand
abbrev pub AnodesAreRight : Type 0
AnodesAreRight = (disk : Aggregate) (slots : ℕ → List Anode) → Keeps slots disk → (slot : ℕ) → slot < 16
    → ((i : ℕ) → i < 64 → FitsPlace disk slot i (anode_at (slots slot) (i + 1)))
    → joined (anode_faults disk slot) 64 ≡ []
