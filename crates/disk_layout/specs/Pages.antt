-- The pages under a log's entries. A page is named by its number among the metadata pages.
use Rattle.std.specs.Prelude.{
  ◌≡◌,
  ◌≤◌,
  ◌<◌,
  ◌⊎◌,
  ℕ,
  zero,
  suc,
  ◌+◌,
  List,
  [],
  ◌∷◌,
  length,
  Bool,
  false,
  ◌==◌,
  ◌&&◌,
  ◌||◌,
  not,
  if◌then◌else◌,
}
use Rattle.base_types.specs.Image.{byte_at}
use Rattle.disk_layout.specs.declared.half.Half.{Half}
use Rattle.disk_layout.specs.declared.entry.Entry.{Entry}
use Rattle.disk_layout.specs.declared.superblock.Superblock.{Superblock}
use Rattle.disk_layout.specs.declared.entry.Entry.TheVariants.{Update, End}
use Rattle.disk_layout.specs.Places.{in_place, entry_start, pages_of, SameBlocks, SameFront}
use Rattle.disk_layout.specs.Entry.{entries}
use Rattle.disk_layout.specs.Half.{HasLog}

-- a page after the updates
abbrev pub redone : List Entry → (ℕ → List ℕ) → ℕ → List ℕ
redone [] pages p = pages p
redone (Update transaction page old new ∷ rest) pages p = redone rest (λ (q : ℕ). if page == q then new else pages q) p
redone (End transaction ∷ rest) pages p = redone rest pages p

-- whether a transaction has an end entry
abbrev pub is_ended : ℕ → List Entry → Bool
is_ended transaction [] = false
is_ended transaction (Update other page old new ∷ rest) = is_ended transaction rest
is_ended transaction (End other ∷ rest) = (other == transaction) || is_ended transaction rest

-- a page after the updates without an end among `all` are undone, the last of them first
abbrev pub undone : List Entry → List Entry → (ℕ → List ℕ) → ℕ → List ℕ
undone all [] pages p = pages p
undone all (Update transaction page old new ∷ rest) pages p =
    if (page == p) && not (is_ended transaction all) then old else undone all rest pages p
undone all (End transaction ∷ rest) pages p = undone all rest pages p

-- what recovery makes of a page
unfoldable pub recovered : List Entry → (ℕ → List ℕ) → ℕ → List ℕ
recovered held pages p = undone held held (redone held pages) p

-- the metadata pages of a log's bytes, after redo and undo
unfoldable pub pages_in : Half → List ℕ → ℕ → List ℕ
pages_in half image p = recovered (entries half image) (in_place image) p

-- the entries of the first k transactions
unfoldable pub firsts : ℕ → List Entry → List Entry
firsts zero held = []
firsts (suc k) [] = []
firsts (suc k) (Update transaction page old new ∷ rest) = Update transaction page old new ∷ firsts (suc k) rest
firsts (suc k) (End transaction ∷ rest) = End transaction ∷ firsts k rest

-- how many transactions end
abbrev pub ends_in : List Entry → ℕ
ends_in [] = 0
ends_in (Update transaction page old new ∷ rest) = ends_in rest
ends_in (End transaction ∷ rest) = suc (ends_in rest)

-- Whole transactions behind `at` earlier entries. Each is named by the place of its first entry, and its updates
-- hold as old values the pages before it. `before` are the pages before the transaction at hand, `now` those after
-- the entries so far, and `first` is its name.
abbrev pub AreWholeFrom : (before now : ℕ → List ℕ) (first at : ℕ) → List Entry → Type 0
AreWholeFrom before now first at [] = first ≡ at
AreWholeFrom before now first at (Update transaction page old new ∷ rest) =
    (transaction ≡ first) × (old ≡ before page)
    × AreWholeFrom before (λ (q : ℕ). if page == q then new else now q) first (suc at) rest
AreWholeFrom before now first at (End transaction ∷ rest) =
    (transaction ≡ first) × AreWholeFrom now now (suc at) (suc at) rest

abbrev pub AreWhole : (ℕ → List ℕ) → ℕ → List Entry → Type 0
AreWhole pages at held = AreWholeFrom pages pages at at held

-- forced transactions, and behind them those that ended since, are whole
pub record HasWhole (held news : List Entry) (image : List ℕ) : Type 0 where
  pub forced : AreWhole (λ (q : ℕ). in_place image q) 0 held
  pub ended : AreWhole (λ (q : ℕ). redone held (in_place image) q) (length held) news

-- stage k of a page: after the first k of the transactions that ended since the last force
abbrev pub stage : List Entry → List Entry → List ℕ → ℕ → ℕ → List ℕ
stage held news image k p = redone (firsts k news) (λ (q : ℕ). redone held (in_place image) q) p

-- a generation is another one, or the next
abbrev pub IsSameOrNext : ℕ → ℕ → Type 0
IsSameOrNext old new = (new ≡ old) ⊎ (new ≡ old + 1)

-- The bytes of a disk are a log with this superblock, whose used half is of this generation or the next; these are its
-- pages after redo and undo, and its blocks are those of an image.
pub record HasPages (superblock : Superblock) (generation : ℕ) (known : ℕ → List ℕ) (image c : List ℕ) : Type 0 where
  pub half : Half
  pub log : HasLog superblock half c
  pub follows : IsSameOrNext generation half.generation
  pub pages : (p : ℕ) → p < pages_of superblock.blocks → pages_in half c p ≡ known p
  pub blocks : SameBlocks (pages_of superblock.blocks) image c

-- A crash left a log in stage k, with the blocks of an image d. Where it left any of the transactions that ended since
-- the last force, they are the blocks as they read.
pub record LeftFirst (superblock : Superblock)
    (generation : ℕ) (held news : List Entry) (image d c : List ℕ) (k : ℕ) : Type 0 where
  pub some_of : k ≤ ends_in news
  pub log : HasPages superblock generation (stage held news image k) d c
  pub blocks : 0 < k → SameBlocks (pages_of superblock.blocks) image d

-- the same, where d is one of the images that a crash before could leave
abbrev pub HasFirst : Superblock → ℕ → List Entry → List Entry → List ℕ → (List ℕ → Type 0) → List ℕ → Type 0
HasFirst superblock generation held news image may_leave c =
    (k : ℕ) × (d : List ℕ) × may_leave d × LeftFirst superblock generation held news image d c k

-- whether an update names a page
abbrev pub is_named : ℕ → List Entry → Bool
is_named p [] = false
is_named p (Update transaction page old new ∷ rest) = (page == p) || is_named p rest
is_named p (End transaction ∷ rest) = is_named p rest

-- images that differ at most in metadata pages, and not in those that stay
pub record SameButPages (Stays : ℕ → Type 0) (old new : List ℕ) : Type 0 where
  pub log : (at : ℕ) → at < 6292992 → byte_at new at ≡ byte_at old at
  pub pages : (p : ℕ) → Stays p → in_place new p ≡ in_place old p
  pub blocks : (n : ℕ) → ((p : ℕ) → n ≤ p → Stays p) → SameBlocks n old new

-- images that differ at most in metadata pages that these entries name
abbrev pub SameButNamed : List Entry → List ℕ → List ℕ → Type 0
SameButNamed held old new = SameButPages (λ (p : ℕ). is_named p held ≡ false) old new

-- images that differ at most in the headers, in the other half, and in pages that the entries name
pub record IsBeside (half : Half) (held : List Entry) (old new : List ℕ) : Type 0 where
  pub front : SameFront old new
  pub entries : (at : ℕ) → entry_start half.start 0 ≤ at
      → at < entry_start half.start 2048 → byte_at new at ≡ byte_at old at
  pub pages : (p : ℕ) → p < half.pages → is_named p held ≡ false → in_place new p ≡ in_place old p
  pub blocks : SameBlocks half.pages old new
