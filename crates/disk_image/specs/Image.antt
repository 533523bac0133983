-- What a disk without faults holds: the image of its aggregate.
use Rattle.std.specs.Prelude.{
  ℕ,
  ◌+◌,
  ◌*◌,
  ◌==◌,
  ◌||◌,
  not,
  Bool,
  true,
  false,
  List,
  [],
  ◌∷◌,
  length,
  Option,
  Some,
  None,
  unwrap_or,
  if◌then◌else◌,
}
use Rattle.base_types.specs.Image.{byte_at}
use Rattle.base_types.specs.declared.access.AccessEntry.{AccessEntry}
use Rattle.tree_calls.specs.declared.part.DirEntry.{DirEntry}
use Rattle.tree_calls.specs.declared.ship.Record.{Record}
use Rattle.tree_objects.specs.declared.content.Content.{Content}
use Rattle.tree_objects.specs.declared.content.Content.TheVariants.{Dir, File}
use Rattle.tree_objects.specs.declared.content.Anode.{Anode}
use Rattle.tree_filesets.specs.declared.fileset.Fileset.{Fileset}
use Rattle.disk_layout.specs.Half.{used_half}
use Rattle.disk_layout.specs.Numbers.{number_at}
use Rattle.disk_layout.specs.Places.{pages_of}
use Rattle.disk_layout.specs.declared.half.Half.{Half}
use Rattle.disk_layout.specs.declared.superblock.Superblock.{Superblock}
use Rattle.disk_anode.specs.Anode.{content_at}
use Rattle.disk_anode.specs.Node.{pointer_of}
use Rattle.disk_pages.specs.Words.{name_at}
use Rattle.disk_pages.specs.Anode.{unique_of, bytes_in}
use Rattle.disk_pages.specs.Blocks.{entry_of}
use Rattle.disk_pages.specs.Header.{id_of, is_taken_slot, header_of}
use Rattle.disk_pages.specs.Numbers.{record_at}
use Rattle.disk_pages.specs.Server.{server_of}
use Rattle.disk_pages.specs.declared.header.SlotHeader.{SlotHeader}
use Rattle.disk_pages.specs.declared.header.SlotState.{SlotState}
use Rattle.disk_pages.specs.declared.header.SlotState.TheVariants.{Clone}
use Rattle.disk_pages.specs.declared.server.ServerFacts.{ServerFacts}
use Rattle.disk_image.specs.Lists.{list_in}
use Rattle.disk_image.specs.Joined.{joined, listed}
use Rattle.disk_image.specs.Aggregate.{
  Aggregate,
  aggregate_of,
  is_blank,
  superblock_of,
  server_page,
  page_of,
  header_page,
  numbers_page,
  anode_page,
  node_at,
  block_under,
}
use Rattle.disk_image.specs.Slots.{state_at}
use Rattle.disk_image.specs.Anodes.{entries_in, entry_bytes}
use Rattle.disk_image.specs.Counts.{promises, capacity_of}
use Rattle.disk_image.specs.Faults.{faults_of}

-- what a slot holds: its header, what is kept of each host's requests, and the fileset with its kept bytes
pub record SlotImage : Type 0 where
  pub slot : ℕ
  pub header : SlotHeader
  pub numbers : List Record
  pub fileset : Fileset

-- what an aggregate holds: what its server's page says, what is kept of each host's requests, its filesets, the
-- blocks that they are promised, and how many there are to promise
pub record Image : Type 0 where
  pub server : ℕ
  pub facts : ServerFacts
  pub numbers : List Record
  pub slots : List SlotImage
  pub promised : ℕ
  pub capacity : ℕ

-- the access list that a pointer of an anode names
abbrev pub list_of : Aggregate → ℕ → ℕ → ℕ → List AccessEntry
list_of disk slot i w = unwrap_or (list_in (block_under disk (pointer_of (node_at disk slot i) w))) []

-- the bytes of a file, and the entries of a directory
abbrev pub file_bytes : Aggregate → ℕ → ℕ → List ℕ
file_bytes disk slot i =
    let n = bytes_in (anode_page disk slot i) in listed (content_at disk.image (node_at disk slot i) n) n

abbrev pub entries_of : Aggregate → ℕ → ℕ → List DirEntry
entries_of disk slot i = listed (entry_of (entry_bytes disk slot i)) (entries_in (anode_page disk slot i))

-- an object, of which nothing is unsaved
abbrev pub content_of : Aggregate → ℕ → ℕ → Content
content_of disk slot i =
    if byte_at (anode_page disk slot i) 0 == 1
    then Dir (entries_of disk slot i) (list_of disk slot i 0 ∷ list_of disk slot i 1 ∷ list_of disk slot i 2 ∷ [])
    else File (list_of disk slot i 0) (file_bytes disk slot i) [] None

abbrev pub anode_of : Aggregate → ℕ → ℕ → Anode
anode_of disk slot i =
    let page = anode_page disk slot i in
    record {
      unique = unique_of page;
      object = if byte_at page 0 == 0 then None
          else Some (record { owner = name_at 76 page; group = name_at 137 page; content = content_of disk slot i });
    }

abbrev pub is_clone : SlotState → Bool
is_clone Clone = true
is_clone _ = false

-- the fileset of a slot, as the tree has it
abbrev pub fileset_of : Aggregate → ℕ → Fileset
fileset_of disk slot =
    let header = header_page disk slot in
    record {
      server = record { 0 = disk.server };
      id = record { 0 = id_of header };
      name = name_at 12 header;
      read_only = is_clone (state_at disk slot);
      objects = number_at 4 8 header;
      moves = number_at 4 76 header;
      anodes = listed (anode_of disk slot) (number_at 4 8 header);
    }

abbrev pub records_of : List ℕ → List Record
records_of page = listed (λ host. record_at (24 * host) page) 17

abbrev pub slot_image : Aggregate → ℕ → SlotImage
slot_image disk slot = record {
  slot = slot;
  header = header_of (server_page disk) (header_page disk slot);
  numbers = records_of (numbers_page disk slot);
  fileset = fileset_of disk slot;
}

-- those of the slots that have a fileset
abbrev pub slots_of : Aggregate → List SlotImage
slots_of disk = joined (λ slot. if is_taken_slot (state_at disk slot) then slot_image disk slot ∷ [] else []) 16

abbrev pub image_in : Aggregate → Image
image_in disk = record {
  server = disk.server;
  facts = server_of (server_page disk);
  numbers = records_of (page_of disk 1);
  slots = slots_of disk;
  promised = promises disk;
  capacity = capacity_of disk;
}

abbrev pub image_behind : Superblock → Option Half → List ℕ → Option Image
image_behind superblock None image = None
image_behind superblock (Some half) image = Some (image_in (aggregate_of superblock half image))

abbrev pub image_under : Option Superblock → ℕ → List ℕ → Option Image
image_under None server image = None
image_under (Some superblock) server image =
    if superblock.server == server
    then image_behind superblock (used_half (pages_of superblock.blocks) image) image else None

-- The image of a disk for a server: there is one exactly where the disk isn't blank, its superblock names the
-- server, and its bytes have no faults.
unfoldable pub image_of : ℕ → List ℕ → Option Image
image_of server image = if is_blank image || not (length (faults_of image) == 0) then None
    else image_under (superblock_of image) server image
