-- An aggregate without filesets.
use Rattle.std.specs.Prelude.{◌≡◌, ◌≤◌, ◌<◌, ℕ, ◌+◌, ◌*◌, ◌/◌, []}
use Rattle.base_types.specs.Image.{byte_at}
use Rattle.disk_layout.specs.Numbers.{number_at}
use Rattle.disk_layout.specs.Places.{page_start}
use Rattle.disk_layout.specs.Server.{IsNewServer}
use Rattle.disk_image.specs.Aggregate.{Aggregate, server_page, page_of}
use Rattle.disk_image.specs.Faults.{faults_in, one_fault}
use Rattle.disk_image.specs.declared.fault.Rule.TheVariants as rules

-- its first page is that of a new server, and the others before those of counts are zero
pub record IsEmpty (disk : Aggregate) : Type 0 where
  pub server : IsNewServer (server_page disk)
  pub zeros : (p : ℕ) → 1 ≤ p → p < 1058 → (k : ℕ) → byte_at (page_of disk p) k ≡ 0

-- how many pages of counts there are, and count k of page p of them
abbrev pub count_pages : Aggregate → ℕ
count_pages disk = (disk.blocks + 255) / 256

abbrev pub count_at : Aggregate → ℕ → ℕ → ℕ
count_at disk p k = number_at 2 (2 * k) (page_of disk (1058 + p))

-- where all counts are zero it has no faults, as after a format
abbrev pub FreshHasNone : Type 0
FreshHasNone = (disk : Aggregate) → IsEmpty disk
    → ((p : ℕ) → p < count_pages disk → (k : ℕ) → k < 256 → count_at disk p k ≡ 0) → faults_in disk ≡ []

-- a count that isn't zero is a fault of its page, of a block or of none, and the only one where the other pages are
-- zero
abbrev pub CountIsTold : Type 0
CountIsTold = (disk : Aggregate)
    → IsEmpty disk → (p k : ℕ) → p < count_pages disk → k < 256 → (count_at disk p k ≡ 0 → ⊥)
    → ((q : ℕ) → q < count_pages disk → (q ≡ p → ⊥) → (j : ℕ) → j < 256 → count_at disk q j ≡ 0)
    → faults_in disk ≡ one_fault (page_start (1058 + p)) rules.Count
