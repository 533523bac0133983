-- What the page of an anode and its indirect block say.
use Rattle.std.specs.Prelude.{
  ◌≡◌,
  ◌≤◌,
  ◌<◌,
  ◌⊎◌,
  ℕ,
  ◌+◌,
  ◌-◌,
  ◌*◌,
  ◌==◌,
  ◌&&◌,
  Bool,
  List,
  if◌then◌else◌,
  nat_lt,
  nat_le,
  replicate,
}
use Rattle.base_types.specs.Image.{byte_at, bytes_from, Torn}
use Rattle.disk_layout.specs.Numbers.{number_at}
use Rattle.disk_layout.specs.Places.{block_start, pages_of}
use Rattle.disk_log.specs.Puts.{page_of}
use Rattle.disk_log.specs.State.{State}
use Rattle.disk_anode.specs.Room.{how_many}
use Rattle.disk_anode.specs.declared.node.Node.{Node}

-- An anode has 68 pointers: those of its lists (own, files, dirs) from 0 on, twelve direct ones from 3 on, the one of
-- its indirect block, 15, and the 52 that stand in this block from 16 on.
unfoldable pub pointer_of : Node → ℕ → ℕ
pointer_of node w = if nat_lt w 16 then number_at 4 (12 + 4 * w) node.page else number_at 4 (4 * (w - 16)) node.map

-- the pointer of block i of an anode's bytes
abbrev pub pointer_at : ℕ → ℕ
pointer_at i = if nat_lt i 12 then i + 3 else i + 4

-- A pointer names a block by its number and one. One that is 0 or out of range names none.
abbrev pub is_pointer : ℕ → ℕ → Bool
is_pointer blocks pointer = nat_lt 0 pointer && nat_le pointer blocks

-- a byte of the block that a pointer names; it is zero where it names none
abbrev pub byte_under : ℕ → List ℕ → ℕ → ℕ → ℕ
byte_under blocks image pointer k =
    if is_pointer blocks pointer then byte_at image (block_start (pages_of blocks) (pointer - 1) + k) else 0

-- byte k of the block that pointer w names
unfoldable pub cell : List ℕ → Node → ℕ → ℕ → ℕ
cell image node w k = byte_under node.blocks image (pointer_of node w) k

-- the bytes of an indirect block
abbrev pub map_under : ℕ → List ℕ → ℕ → List ℕ
map_under blocks image pointer = if is_pointer blocks pointer
    then bytes_from image (block_start (pages_of blocks) (pointer - 1)) 1024 else replicate 1024 0

-- the anode in a page
abbrev pub node_of : ℕ → List ℕ → List ℕ → Node
node_of blocks image page = record { blocks = blocks; page = page; map = map_under blocks image (number_at 4 72 page) }

abbrev pub node_in : State → List ℕ → ℕ → Node
node_in state image p = node_of state.superblock.blocks image (page_of state.entries state.puts image p)

-- how many pointers of an anode name a block
unfoldable pub names : Node → ℕ → ℕ
names node block = how_many (λ w. pointer_of node w == block + 1) 68

-- and how many of those below one
unfoldable pub names_below : ℕ → Node → ℕ → ℕ
names_below n node block = how_many (λ w. pointer_of node w == block + 1) n

-- no pointers
abbrev pub no_names : ℕ → ℕ
no_names block = 0

-- an anode with another pointer
pub record PointsTo (w pointer : ℕ) (old new : Node) : Type 0 where
  pub blocks : new.blocks ≡ old.blocks
  pub here : pointer_of new w ≡ pointer
  pub others : (v : ℕ) → v < 68 → (v ≡ w → ⊥) → pointer_of new v ≡ pointer_of old v
  pub map : w < 16 → new.map ≡ old.map
  pub rest : (k : ℕ) → (k < 12) ⊎ (76 ≤ k) → byte_at new.page k ≡ byte_at old.page k
  pub behind : (k : ℕ) → 208 ≤ k → byte_at new.map k ≡ byte_at old.map k

-- all but the pointers is the same
pub record SameFacts (old new : Node) : Type 0 where
  pub blocks : new.blocks ≡ old.blocks
  pub rest : (k : ℕ) → (k < 12) ⊎ (76 ≤ k) → byte_at new.page k ≡ byte_at old.page k
  pub behind : (k : ℕ) → 208 ≤ k → byte_at new.map k ≡ byte_at old.map k

-- an anode with another length
pub record HasLength (n : ℕ) (old new : Node) : Type 0 where
  pub blocks : new.blocks ≡ old.blocks
  pub length : number_at 4 8 new.page ≡ n
  pub torn : Torn 8 4 old.page new.page
  pub map : new.map ≡ old.map

-- an anode without blocks
abbrev pub HasNoBlocks : Node → Type 0
HasNoBlocks node = (w : ℕ) → w < 68 → pointer_of node w ≡ 0

-- no pointer is out of range
abbrev pub IsRanged : Node → Type 0
IsRanged node = (w : ℕ) → w < 68 → pointer_of node w ≤ node.blocks
