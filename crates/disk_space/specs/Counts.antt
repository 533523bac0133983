-- How many pointers name each block. The counts stand in the metadata pages behind those of the filesets, 256 in a
-- page.
use Rattle.std.specs.Prelude.{◌≡◌, ◌≢◌, ◌≤◌, ◌<◌, ℕ, ◌+◌, ◌*◌, ◌/◌, ◌%◌, List, Option, Some, None}
use Rattle.disk_layout.specs.Numbers.{number_at}
use Rattle.disk_log.specs.Puts.{page_of, settled_byte}
use Rattle.disk_log.specs.State.{State, MayPut, with_put, put_of}

-- the page of a block's count, and the place of the count in it
abbrev pub count_page : ℕ → ℕ
count_page block = 1058 + block / 256

abbrev pub count_place : ℕ → ℕ
count_place block = 2 * (block % 256)

-- the count of a block in a log's pages
unfoldable pub count_now : State → List ℕ → ℕ → ℕ
count_now state image block =
    number_at 2 (count_place block) (page_of state.entries state.puts image (count_page block))

-- the or of the counts that a crash may leave
unfoldable pub count_settled : State → List ℕ → ℕ → ℕ
count_settled state image block =
    256 * settled_byte state.entries state.forced image (count_page block) (count_place block)
    + settled_byte state.entries state.forced image (count_page block) (count_place block + 1)

-- count i of a page is 0 in two pages
abbrev pub AreBothZero : List ℕ → List ℕ → ℕ → Type 0
AreBothZero a b i = (number_at 2 (2 * i) a ≡ 0) × (number_at 2 (2 * i) b ≡ 0)

-- A block of the aggregate is free: no pointer names it, now and in whatever a crash may leave.
pub record IsFree (state : State) (image : List ℕ) (block : ℕ) : Type 0 where
  pub there : block < state.superblock.blocks
  pub now : count_now state image block ≡ 0
  pub settled : count_settled state image block ≡ 0

-- no block from one on up to another is free
abbrev pub AreUsed : State → List ℕ → ℕ → ℕ → Type 0
AreUsed state image from to = (block : ℕ) → from ≤ block → block < to → IsFree state image block → ⊥

-- the lowest block from one on up to another that is free, where one is
abbrev pub IsFound : State → List ℕ → ℕ → ℕ → Option ℕ → Type 0
IsFound state image from to None = AreUsed state image from to
IsFound state image from to (Some block) = IsFree state image block × AreUsed state image from block

-- a transaction may put the pages of counts
abbrev pub MayCount : State → ℕ → Type 0
MayCount state slot = (page : ℕ) → 1058 ≤ page → page < state.half.pages → MayPut state slot page

-- a transaction put the page of a block's count
abbrev pub HasPut : ℕ → ℕ → State → State → Type 0
HasPut slot block old new =
    (before : List ℕ) × (after : List ℕ) × (new ≡ with_put old (put_of slot (count_page block) before after))

-- a block has another count, and all else is the same
pub record SetsCount (block n : ℕ) (old new : State) (image : List ℕ) : Type 0 where
  pub count : count_now new image block ≡ n
  pub others : (other : ℕ) → other ≢ block → count_now new image other ≡ count_now old image other
  pub pages : (p : ℕ) → p < 1058 → page_of new.entries new.puts image p ≡ page_of old.entries old.puts image p
