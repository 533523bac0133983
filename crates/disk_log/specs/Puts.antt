-- Pages under the entries and puts of a log. A transaction is named in memory by its slot, and on disk by the place of
-- its first entry.
use Rattle.std.specs.Prelude.{
  ◌≡◌,
  ◌≢◌,
  ◌<◌,
  ◌≤◌,
  ◌⊎◌,
  ℕ,
  ◌+◌,
  List,
  [],
  ◌∷◌,
  ◌++◌,
  length,
  take,
  drop,
  Bool,
  false,
  ◌==◌,
  ◌&&◌,
  ◌||◌,
  if◌then◌else◌,
  bit_or,
}
use Rattle.std.proofs.Common.{get_or}
use Rattle.base_types.specs.View.{View}
use Rattle.disk_layout.specs.declared.entry.Entry.{Entry}
use Rattle.disk_layout.specs.declared.entry.Entry.TheVariants.{Update, End}
use Rattle.disk_layout.specs.declared.half.Half.{Half}
use Rattle.disk_layout.specs.Places.{half_start, in_place}
use Rattle.disk_layout.specs.Half.{IsLog}
use Rattle.disk_layout.specs.Pages.{redone, HasWhole}
use Rattle.disk_log.specs.Append.{AllFit, LeavesBlocks}
use Rattle.disk_log.specs.declared.put.Put.{Put}

-- a page under the puts of open transactions
abbrev pub overlaid : List Put → (ℕ → List ℕ) → ℕ → List ℕ
overlaid [] pages p = pages p
overlaid (put ∷ puts) pages p = if put.page == p then put.new else overlaid puts pages p

-- a page with all puts
unfoldable pub page_of : List Entry → List Put → List ℕ → ℕ → List ℕ
page_of entries puts image p = overlaid puts (λ (q : ℕ). redone entries (in_place image) q) p

-- no put of a list has this page
abbrev pub IsAbsent : ℕ → List Put → Type 0
IsAbsent page [] = Unit {0}
IsAbsent page (put ∷ puts) = (put.page ≢ page) × IsAbsent page puts

-- each page is put once, over what the ended transactions left of it
abbrev pub ArePuts : (ℕ → List ℕ) → List Put → Type 0
ArePuts pages [] = Unit {0}
ArePuts pages (put ∷ puts) = (put.old ≡ pages put.page) × ArePuts pages puts

abbrev pub AreApart : ℕ → List Put → Type 0
AreApart pages [] = Unit {0}
AreApart pages (put ∷ puts) = (put.page < pages) × IsAbsent put.page puts × AreApart pages puts

-- the entries of one transaction's puts, named by the place of its first entry
abbrev pub updates_of : ℕ → ℕ → List Put → List Entry
updates_of slot name [] = []
updates_of slot name (put ∷ puts) = if put.slot == slot
    then Update name put.page put.old put.new ∷ updates_of slot name puts else updates_of slot name puts

-- and its end
abbrev pub run_of : ℕ → ℕ → List Put → List Entry
run_of slot name puts = updates_of slot name puts ++ End name ∷ []

-- the puts of the other transactions
abbrev pub without : ℕ → List Put → List Put
without slot [] = []
without slot (put ∷ puts) = if put.slot == slot then without slot puts else put ∷ without slot puts

-- the puts of other pages
abbrev pub without_page : ℕ → List Put → List Put
without_page page [] = []
without_page page (put ∷ puts) = if put.page == page then without_page page puts else put ∷ without_page page puts

-- a page under the entries alone
unfoldable pub ended_page : List Entry → List ℕ → ℕ → List ℕ
ended_page entries image p = redone entries (in_place image) p

-- a byte of a page under the or of what these entries left of it
abbrev pub or_of : List Entry → ℕ → ℕ → ℕ → ℕ
or_of [] p k byte = byte
or_of (Update transaction page old new ∷ rest) p k byte =
    or_of rest p k (if page == p then bit_or byte (get_or new k 0) else byte)
or_of (End transaction ∷ rest) p k byte = or_of rest p k byte

-- byte k of a page as settled
unfoldable pub settled_byte : List Entry → ℕ → List ℕ → ℕ → ℕ → ℕ
settled_byte entries forced image p k =
    or_of (drop forced entries) p k (get_or (redone (take forced entries) (in_place image) p) k 0)

-- how many pages a transaction put
abbrev pub count_of : ℕ → List Put → ℕ
count_of slot [] = 0
count_of slot (put ∷ puts) = if put.slot == slot then count_of slot puts + 1 else count_of slot puts

-- whether a transaction put a page
abbrev pub is_put : ℕ → ℕ → List Put → Bool
is_put slot page [] = false
is_put slot page (put ∷ puts) = ((put.slot == slot) && (put.page == page)) || is_put slot page puts

-- no other transaction put the page
abbrev pub IsOwn : ℕ → ℕ → List Put → Type 0
IsOwn slot page [] = Unit {0}
IsOwn slot page (put ∷ puts) = (put.page ≡ page → put.slot ≡ slot) × IsOwn slot page puts

-- what is told of a log's disk
pub record IsOnDisk (view : View) (half : Half) (entries : List Entry) (forced : ℕ) (puts : List Put) : Type 0 where
  pub log : IsLog half (take forced entries) view.image
  pub whole : HasWhole (take forced entries) (drop forced entries) view.image
  pub puts_over : ArePuts (λ (q : ℕ). redone entries (in_place view.image) q) puts
  pub settled : LeavesBlocks half.pages view

-- what is in memory fits what is on the disk
pub record IsSteady (tells : Type 0)
    (view : View) (half : Half) (entries : List Entry) (forced : ℕ) (puts : List Put) : Type 0 where
  pub placed : (half.start ≡ half_start 0) ⊎ (half.start ≡ half_start 1)
  pub few_pages : half.pages ≤ 131072
  pub forced_le : forced ≤ length entries
  pub room : length entries ≤ 2048
  pub fits : AllFit half entries
  pub apart : AreApart half.pages puts
  pub on_disk : tells → IsOnDisk view half entries forced puts
