-- What a call on an anode leaves as it was, where the disk is told.
use Rattle.std.specs.Prelude.{
  ◌≡◌,
  ◌≤◌,
  ◌<◌,
  ◌⊎◌,
  ◌==◌,
  ℕ,
  ◌+◌,
  ◌*◌,
  ◌-◌,
  ◌/◌,
  ◌&&◌,
  Bool,
  false,
  List,
  length,
  if◌then◌else◌,
  nat_lt,
}
use Rattle.std.proofs.Common.{get_or}
use Rattle.base_types.specs.Image.{byte_at}
use Rattle.base_types.specs.View.{View}
use Rattle.base_types.specs.Crash.{ChangesBy}
use Rattle.disk_layout.specs.Places.{block_start, pages_of, SameButBlocks}
use Rattle.disk_log.specs.Puts.{page_of}
use Rattle.disk_log.specs.State.{State}
use Rattle.disk_space.specs.Counts.{count_now, count_settled, IsFree}
use Rattle.disk_anode.specs.Anode.{Anode, anode_of, anode_in, bytes_of, content_at, names_past, over, IsTidy, IsTrimmed}
use Rattle.disk_anode.specs.Node.{
  pointer_of,
  pointer_at,
  is_pointer,
  cell,
  names,
  names_below,
  no_names,
  node_in,
  SameFacts,
  IsRanged,
}
use Rattle.disk_anode.specs.Room.{one}
use Rattle.disk_anode.specs.declared.node.Node.{Node}

-- No pointers but so many name a block now, and none in whatever a crash may leave.
pub record IsLoose (named : ℕ → ℕ) (state : State) (image : List ℕ) (block : ℕ) : Type 0 where
  pub there : block < state.superblock.blocks
  pub now : count_now state image block ≤ named block
  pub settled : count_settled state image block ≡ 0

-- the same bytes of a block
abbrev pub SameBlock : ℕ → List ℕ → List ℕ → ℕ → Type 0
SameBlock blocks old new block = (k : ℕ) → k < 1024
    → byte_at new (block_start (pages_of blocks) block + k) ≡ byte_at old (block_start (pages_of blocks) block + k)

-- images that differ at most in the bytes of loose blocks
pub record WritesLoose (named : ℕ → ℕ) (state : State) (image old new : List ℕ) : Type 0 where
  pub front : SameButBlocks (pages_of state.superblock.blocks) old new
  pub blocks : (block : ℕ) → block < state.superblock.blocks
      → (IsLoose named state image block → ⊥) → SameBlock state.superblock.blocks old new block

-- A run wrote loose blocks alone, as they read and in whatever a crash leaves.
pub record WroteLoose (named : ℕ → ℕ) (state : State) (old new : View) : Type 0 where
  pub reads : WritesLoose named state old.image old.image new.image
  pub crash : ChangesBy (WritesLoose named state old.image) old new

-- the place for a count of no block, in the last page of counts
abbrev pub IsSpare : ℕ → ℕ → Type 0
IsSpare blocks block = (blocks ≤ block) × (block < 256 * ((blocks + 255) / 256))

-- the counts move with the pointers that were dropped and set, and those of no block stay
pub record Moves (dropped set : ℕ → ℕ) (old : State) (before : List ℕ) (new : State) (after : List ℕ) : Type 0 where
  pub counts : (block : ℕ) → block < old.superblock.blocks
      → count_now new after block + dropped block ≡ count_now old before block + set block
  pub settled : (block : ℕ)
      → block < old.superblock.blocks → count_settled new after block ≡ count_settled old before block
  pub tail : (block : ℕ) → IsSpare old.superblock.blocks block → count_now new after block ≡ count_now old before block
  pub pages : (p : ℕ) → p < 1058 → page_of new.entries new.puts after p ≡ page_of old.entries old.puts before p

-- the same, but for the page of the anode
pub record Turns (page : ℕ)
    (dropped set : ℕ → ℕ) (old : State) (before : List ℕ) (new : State) (after : List ℕ) : Type 0 where
  pub counts : (block : ℕ) → block < old.superblock.blocks
      → count_now new after block + dropped block ≡ count_now old before block + set block
  pub settled : (block : ℕ)
      → block < old.superblock.blocks → count_settled new after block ≡ count_settled old before block
  pub tail : (block : ℕ) → IsSpare old.superblock.blocks block → count_now new after block ≡ count_now old before block
  pub pages : (p : ℕ) → p < 1058
      → (p ≡ page → ⊥) → page_of new.entries new.puts after p ≡ page_of old.entries old.puts before p

-- An anode's indirect block is shared where another pointer names it, too.
abbrev pub is_shared : State → List ℕ → Node → Bool
is_shared state image node =
    is_pointer node.blocks (pointer_of node 15) && nat_lt 1 (count_now state image (pointer_of node 15 - 1))

-- How many pointers to a block are an anode's own: those of its page, and those of its indirect block unless it is
-- shared. The pointers of a shared one are counted once for all anodes that name it.
abbrev pub own_names : State → List ℕ → Node → ℕ → ℕ
own_names state image node block = if is_shared state image node then names_below 16 node block else names node block

-- the counts have room for so many pointers more
abbrev pub AreFew : (ℕ → ℕ) → State → List ℕ → Type 0
AreFew named state image =
    (block : ℕ) → block < state.superblock.blocks → count_now state image block + named block < 65536

-- so many pointers at least are counted for each block
abbrev pub AreCounted : (ℕ → ℕ) → State → List ℕ → Type 0
AreCounted named state image = (block : ℕ) → block < state.superblock.blocks → named block ≤ count_now state image block

-- A block is named by no more pointers than were dropped. Or else none but these named it, and one names it now.
abbrev pub Renews : (ℕ → ℕ) → (ℕ → ℕ) → State → List ℕ → Type 0
Renews dropped set state image = (block : ℕ) → (set block ≤ dropped block)
    ⊎ ((block < state.superblock.blocks) × (count_now state image block ≤ dropped block) × (set block ≤ 1))

-- The pointers that an anode begins a change with: all but the one of an indirect block that is left to others.
abbrev pub left_names : State → List ℕ → Node → ℕ → ℕ
left_names state image node block =
    names node block - (if is_shared state image node then one (pointer_of node 15 == block + 1) else 0)

-- a block that was free was taken and written
pub record IsTaken (block : ℕ)
    (bytes : List ℕ) (old : State) (before : List ℕ) (new : State) (after : List ℕ) : Type 0 where
  pub free : IsFree old before block
  pub moves : Moves (λ other. 0) (λ other. one (block + 1 == other + 1)) old before new after
  pub holds : (k : ℕ) → k < 1024
      → byte_at after (block_start (pages_of old.superblock.blocks) block + k) ≡ get_or bytes k 0
  pub others : (other : ℕ) → (other ≡ block → ⊥) → SameBlock old.superblock.blocks before after other

-- A pointer of an anode has bytes of its own: its block was given up, and all other pointers have the same bytes.
pub record Replaced (w : ℕ) (bytes : ℕ → ℕ)
    (node : Node) (old : State) (before : List ℕ) (changed : Node) (new : State) (after : List ℕ) : Type 0 where
  pub moves : Moves (names node) (names changed) old before new after
  pub renews : Renews (names node) (names changed) old before
  pub cells : (v k : ℕ) → v < 68
      → k < 1024 → cell after changed v k ≡ (if v == w then bytes k else cell before node v k)

-- A piece was laid over an anode's bytes, of which those before one stay. The lists are the same.
pub record Laid (kept from : ℕ) (piece : List ℕ)
    (node : Node) (old : State) (before : List ℕ) (changed : Node) (new : State) (after : List ℕ) : Type 0 where
  pub moves : Moves (names node) (names changed) old before new after
  pub renews : Renews (names node) (names changed) old before
  pub cells : (i k : ℕ) → i < 64 → k < 1024
      → cell after changed (pointer_at i) k ≡ over from piece (λ m. content_at before node kept m) (1024 * i + k)
  pub lists : (v k : ℕ) → v < 3 → k < 1024 → cell after changed v k ≡ cell before node v k
  pub own : (v : ℕ) → v < 3 → pointer_of changed v ≡ pointer_of node v
  pub past : (i : ℕ) → i < 64 → kept ≤ 1024 * i → from + length piece ≤ 1024 * i → pointer_of changed (pointer_at i) ≡ 0
  pub same : (i : ℕ) → i < 64 → 1024 * i + 1024 ≤ kept
      → from + length piece ≤ 1024 * i → pointer_of changed (pointer_at i) ≡ pointer_of node (pointer_at i)

-- An anode was put in its page: it is read there, with the same bytes under its pointers.
pub record Saved (page : ℕ)
    (node : Node) (old : State) (before : List ℕ) (changed : Node) (new : State) (after : List ℕ) : Type 0 where
  pub turns : Turns page (names node) (names changed) old before new after
  pub renews : Renews (names node) (names changed) old before
  pub there : node_in new after page ≡ changed
  pub cells : (v k : ℕ) → v < 68 → (v ≡ 15 → ⊥) → k < 1024 → cell after changed v k ≡ cell before node v k
  pub pointers : (v : ℕ) → v < 68 → (v ≡ 15 → ⊥) → pointer_of changed v ≡ pointer_of node v
  pub alone : is_shared new after changed ≡ false

-- The anode of a page with all its pointers its own, as it is changed before it is put: what it names beside its
-- indirect block is the same.
pub record Owned (stored node : Node) : Type 0 where
  pub facts : SameFacts stored node
  pub map : node.map ≡ stored.map
  pub pointers : (w : ℕ) → w < 68 → (w ≡ 15 → ⊥) → pointer_of node w ≡ pointer_of stored w

-- An anode that was taken up from a page changed there.
pub record Turned (page : ℕ)
    (update : Anode → Anode) (node : Node) (old : State) (before : List ℕ) (new : State) (after : List ℕ) : Type 0 where
  pub turns : Turns page (names node) (names (node_in new after page)) old before new after
  pub renews : Renews (names node) (names (node_in new after page)) old before
  pub anode : anode_in new after page ≡ update (anode_of before node)
  pub tidy : IsTidy before node → IsTidy after (node_in new after page)
  pub trimmed : IsTrimmed node → IsTrimmed (node_in new after page)
  pub alone : is_shared new after (node_in new after page) ≡ false

-- The pointers of an anode that changed. No other pointer names its indirect block. It names a block no more often than
-- before, or else no other anode named the block and one pointer names it now.
pub record IsRenewed (page : ℕ) (old : State) (before : List ℕ) (new : State) (after : List ℕ) : Type 0 where
  pub alone : is_shared new after (node_in new after page) ≡ false
  pub pointers : (block : ℕ) → block < old.superblock.blocks
      → (names (node_in new after page) block ≤ left_names old before (node_in old before page) block)
      ⊎ ((count_now old before block ≤ own_names old before (node_in old before page) block)
      × (names (node_in new after page) block ≤ 1))

-- An anode in a page changed. The counts of blocks moved with the pointers that were its own and with those that are.
-- All other pages of filesets are the same, and where no pointer changed all pages are.
pub record Changed (page : ℕ)
    (update : Anode → Anode) (old : State) (before : List ℕ) (new : State) (after : List ℕ) : Type 0 where
  pub turns : Turns page (own_names old before (node_in old before page))
      (own_names new after (node_in new after page)) old before new after
  pub anode : anode_in new after page ≡ update (anode_in old before page)
  pub tidy : IsTidy before (node_in old before page) → IsTidy after (node_in new after page)
  pub trimmed : IsTrimmed (node_in old before page) → IsTrimmed (node_in new after page)
  pub renewed : ((new ≡ old) × (after ≡ before)) ⊎ IsRenewed page old before new after

-- An anode was made in a page that had none. Its own pointers are counted anew, and all other pages of filesets are the
-- same.
pub record Made (page : ℕ) (anode : Anode) (old : State) (before : List ℕ) (new : State) (after : List ℕ) : Type 0 where
  pub turns : Turns page no_names (own_names new after (node_in new after page)) old before new after
  pub anode_is : anode_in new after page ≡ anode

-- An anode was put in a page that had none, maybe with another indirect block. Its own pointers are counted anew.
pub record Cloned (page : ℕ) (node : Node) (old : State) (before : List ℕ) (new : State) (after : List ℕ) : Type 0 where
  pub turns : Turns page no_names (own_names new after (node_in new after page)) old before new after
  pub facts : SameFacts node (node_in new after page)
  pub range : IsRanged node → IsRanged (node_in new after page)
  pub pointers : (v : ℕ) → v < 68 → (v ≡ 15 → ⊥) → pointer_of (node_in new after page) v ≡ pointer_of node v
  pub cells : (v k : ℕ) → v < 68
      → (v ≡ 15 → ⊥) → k < 1024 → cell after (node_in new after page) v k ≡ cell before node v k

-- An anode has an indirect block of its own, which was free before, or none.
pub record OwnsMap (page : ℕ) (old : State) (before : List ℕ) (new : State) (after : List ℕ) : Type 0 where
  pub alone : is_shared new after (node_in new after page) ≡ false
  pub free : (block : ℕ) → block < old.superblock.blocks
      → pointer_of (node_in new after page) 15 ≡ block + 1 → count_now old before block ≡ 0

-- A copy names the blocks of its source but for those past the length. It names the indirect block, too, unless this
-- one has pointers past the length: then it has one of its own.
pub record SharesBlocks (page : ℕ)
    (source : Node) (old : State) (before : List ℕ) (new : State) (after : List ℕ) : Type 0 where
  pub past : (i : ℕ) → i < 64 → bytes_of source ≤ 1024 * i → pointer_of (node_in new after page) (pointer_at i) ≡ 0
  pub bytes : (i : ℕ) → i < 64 → 1024 * i < bytes_of source
      → pointer_of (node_in new after page) (pointer_at i) ≡ pointer_of source (pointer_at i)
  pub lists : (w : ℕ) → w < 3 → pointer_of (node_in new after page) w ≡ pointer_of source w
  pub map : names_past source ≡ 0 → pointer_of (node_in new after page) 15 ≡ pointer_of source 15
  pub own : 0 < names_past source → OwnsMap page old before new after
  pub tidy : IsTidy before source → IsTidy after (node_in new after page)
