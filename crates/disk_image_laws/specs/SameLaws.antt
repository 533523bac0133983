-- What of a disk's bytes is judged and read.
use Rattle.std.specs.Prelude.{◌≡◌, ◌≤◌, ℕ, true, List, []}
use Rattle.std.proofs.Common.{get_or}
use Rattle.disk_layout.specs.Half.{HasLog}
use Rattle.disk_layout.specs.Pages.{pages_in, HasPages}
use Rattle.disk_layout.specs.Places.{pages_of, SameBlocks}
use Rattle.disk_layout.specs.declared.half.Half.{Half}
use Rattle.disk_layout.specs.declared.superblock.Superblock.{Superblock}
use Rattle.disk_pages.specs.Server.{is_server_page}
use Rattle.disk_pages.specs.Laws.{IsReformed}
use Rattle.disk_image.specs.Aggregate.{Aggregate, page_of, server_page}
use Rattle.disk_image.specs.Faults.{faults_of, faults_in}
use Rattle.disk_image.specs.Image.{image_of, image_in}

-- Bytes that are the same log as others, with the same pages and blocks, have the same faults and the same image.
abbrev pub LogHasSameImage : Type 0
LogHasSameImage = (superblock : Superblock) (half : Half) (old c : List ℕ) → HasLog superblock half old
    → HasPages superblock half.generation (pages_in half old) old c
    → (faults_of c ≡ faults_of old) × ((server : ℕ) → image_of server c ≡ image_of server old)

-- An aggregate over other bytes with the same blocks has the same faults and the same image.
abbrev pub BlocksHaveSameImage : Type 0
BlocksHaveSameImage = (disk : Aggregate) (c : List ℕ) → SameBlocks (pages_of disk.blocks) disk.image c
    → (faults_in (record disk { image = c }) ≡ faults_in disk) × (image_in (record disk { image = c }) ≡ image_in disk)

-- An aggregate of format 1 without faults has none in format 2, and the same image, where its server's page says
-- format 2 and all else as before.
abbrev pub FormatHasSameImage : Type 0
FormatHasSameImage = (disk : Aggregate) (pages : List (List ℕ)) → faults_in disk ≡ []
    → IsReformed (server_page disk) (get_or pages 0 []) → is_server_page (get_or pages 0 []) ≡ true
    → ((p : ℕ) → 1 ≤ p → get_or pages p [] ≡ page_of disk p)
    → (faults_in (record disk { pages = pages }) ≡ [])
    × (image_in (record disk { pages = pages })
    ≡ record (image_in disk) { facts = record (image_in disk).facts { format = 2 } })
