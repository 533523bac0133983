-- All anodes of an aggregate at once.
use Rattle.std.specs.Prelude.{[], ◌≡◌, ◌≢◌, ◌≤◌, ◌<◌, ℕ, zero, suc, ◌+◌, ◌-◌, ◌*◌, ◌/◌, ◌%◌, ◌==◌, ◌&&◌, not}
use Rattle.std.specs.Prelude.{Bool, true, List, if◌then◌else◌, nat_lt, nat_le, take, drop}
use Rattle.disk_layout.specs.Numbers.{number_at}
use Rattle.disk_layout.specs.Pages.{stage}
use Rattle.disk_log.specs.Puts.{page_of}
use Rattle.disk_log.specs.State.{State}
use Rattle.disk_space.specs.Counts.{count_page, count_place}
use Rattle.disk_anode.specs.Anode.{Anode, anode_of, byte_length, IsTidy}
use Rattle.disk_anode.specs.Changes.{IsSpare}
use Rattle.disk_anode.specs.Node.{pointer_of, names, names_below, map_under, node_of, node_in, HasNoBlocks}
use Rattle.disk_anode.specs.Room.{how_many}
use Rattle.disk_anode.specs.declared.node.Node.{Node}

-- The pages of anodes: the server has two pages, and each slot of a fileset 66, of which the first two aren't anodes'.
abbrev pub is_anode : ℕ → Bool
is_anode p = nat_le 2 p && nat_lt p 1058 && nat_le 2 ((p - 2) % 66)

-- the sum over the numbers below one
unfoldable pub sum_below : (ℕ → ℕ) → ℕ → ℕ
sum_below f zero = 0
sum_below f (suc n) = sum_below f n + f n

-- how many of the 16 pointers of a page name a block, and its pointer to an indirect block; of other pages none
abbrev pub page_names : ℕ → (ℕ → List ℕ) → List ℕ → ℕ → ℕ → ℕ
page_names blocks pages image block p = if is_anode p then names_below 16 (node_of blocks image (pages p)) block else 0

abbrev pub indirect_of : ℕ → (ℕ → List ℕ) → List ℕ → ℕ → ℕ
indirect_of blocks pages image p = if is_anode p then pointer_of (node_of blocks image (pages p)) 15 else 0

-- how many of the 52 pointers of an indirect block name a block
abbrev pub map_names : ℕ → List ℕ → ℕ → ℕ → ℕ
map_names blocks image block m = how_many (λ j. number_at 4 (4 * j) (map_under blocks image (m + 1)) == block + 1) 52

-- whether a block is the indirect block of an anode
abbrev pub is_indirect : (ℕ → ℕ) → ℕ → Bool
is_indirect indirect m = nat_lt 0 (how_many (λ p. indirect p == m + 1) 1058)

-- How many pointers name a block: those in pages, and those in indirect blocks, once for all anodes that share one.
abbrev pub total : (front indirect maps : ℕ → ℕ) → ℕ → ℕ
total front indirect maps blocks =
    sum_below front 1058 + sum_below (λ m. if is_indirect indirect m then maps m else 0) blocks

abbrev pub pointers_to : ℕ → (ℕ → List ℕ) → List ℕ → ℕ → ℕ
pointers_to blocks pages image block =
    total (page_names blocks pages image block) (indirect_of blocks pages image) (map_names blocks image block) blocks

-- the slot of an anode's page
abbrev pub slot_at : ℕ → ℕ
slot_at p = (p - 2) / 66

-- Pages and blocks hold these anodes: the counts are those of the pointers, and those of no block are zero; no anode
-- names a block twice, and no two of a slot name one; an indirect block is named as such alone; all bytes without a
-- meaning are zero; and a free anode has no blocks.
pub record Holds (anodes : ℕ → Anode) (blocks : ℕ) (pages : ℕ → List ℕ) (image : List ℕ) : Type 0 where
  pub anode : (p : ℕ) → is_anode p ≡ true → anode_of image (node_of blocks image (pages p)) ≡ anodes p
  pub counts : (block : ℕ) → block < blocks
      → number_at 2 (count_place block) (pages (count_page block)) ≡ pointers_to blocks pages image block
  pub tail : (block : ℕ) → IsSpare blocks block → number_at 2 (count_place block) (pages (count_page block)) ≡ 0
  pub once : (p block : ℕ) → is_anode p ≡ true → block < blocks → names (node_of blocks image (pages p)) block ≤ 1
  pub slots : (p q block : ℕ) → is_anode p ≡ true → is_anode q ≡ true → p ≢ q → slot_at p ≡ slot_at q
      → block < blocks → names (node_of blocks image (pages p)) block + names (node_of blocks image (pages q)) block ≤ 1
  pub apart : (p q w block : ℕ) → is_anode p ≡ true → is_anode q ≡ true → block < blocks
      → pointer_of (node_of blocks image (pages p)) 15 ≡ block + 1
      → w < 68 → w ≢ 15 → pointer_of (node_of blocks image (pages q)) w ≡ block + 1 → ⊥
  pub tidy : (p : ℕ) → is_anode p ≡ true → IsTidy image (node_of blocks image (pages p))
  pub bare : (p : ℕ) → is_anode p ≡ true → (anodes p).kind ≡ 0 → HasNoBlocks (node_of blocks image (pages p))

-- the anode of a page that never had one
abbrev pub no_anode : Anode
no_anode = record {
  kind = 0;
  unique = 0;
  length = 0;
  owner = [];
  group = [];
  lists = λ which k. 0;
  content = λ k. 0;
}

-- what a log holds now
abbrev pub HoldsNow : (ℕ → Anode) → State → List ℕ → Type 0
HoldsNow anodes state image = Holds anodes state.superblock.blocks (λ p. page_of state.entries state.puts image p) image

-- an anode names no block that another one in a page's slot names
abbrev pub NamesApart : ℕ → Node → State → List ℕ → Type 0
NamesApart page node state image = (other block : ℕ) → is_anode other ≡ true → other ≢ page
    → slot_at page ≡ slot_at other → block < state.superblock.blocks
    → names node block + names (node_in state image other) block ≤ 1

-- stage k of a log's pages: after the first k of the transactions that ended since the last force
abbrev pub stage_of : State → List ℕ → ℕ → ℕ → List ℕ
stage_of state image k p = stage (take state.forced state.entries) (drop state.forced state.entries) image k p

-- with another anode in a page
abbrev pub set_at : ℕ → Anode → (ℕ → Anode) → ℕ → Anode
set_at page anode anodes p = if p == page then anode else anodes p

-- how many pointers of an anode are set, and how many of all anodes
abbrev pub pointers_set : Node → ℕ
pointers_set node = how_many (λ w. not (pointer_of node w == 0)) 68

abbrev pub all_pointers : State → List ℕ → ℕ
all_pointers state image = sum_below (λ p. if is_anode p then pointers_set (node_in state image p) else 0) 1058

-- How many an anode has at most that has none past its length: those of its three lists, the one to its indirect block,
-- and those of its bytes.
abbrev pub blocks_most : Anode → ℕ
blocks_most anode = if anode.kind == 0 then 0 else 4 + (byte_length anode.kind anode.length + 1023) / 1024
