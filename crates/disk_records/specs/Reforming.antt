-- What a log of format 1 is in format 2.
use Rattle.std.specs.Prelude.{◌≡◌, ◌⊎◌, ◌≤◌, ◌<◌, ℕ, ◌+◌, true, List, set, Result, OnOk, IfErr}
use Rattle.base_types.specs.Crash.{IsQuiet, IsSettled}
use Rattle.base_types.specs.Image.{byte_at}
use Rattle.base_types.specs.View.{View}
use Rattle.base_outside.specs.Runs.{LeavesOnly}
use Rattle.disk_layout.specs.Pages.{HasPages}
use Rattle.disk_layout.specs.Places.{SameBlocks}
use Rattle.disk_log.specs.Blame.{IsDiskOrMemory}
use Rattle.disk_log.specs.Contents.{contents_of, last_stage, page_in, stage_in}
use Rattle.disk_log.specs.Log.{disk_of, state_of, IsIdle, IsSoundLog}
use Rattle.disk_log.specs.declared.fault.LogFault.{LogFault}
use Rattle.disk_pages.specs.Puts.{SaysFacts}
use Rattle.disk_pages.specs.declared.server.ServerFacts.{ServerFacts}
use Rattle.disk_log.specs.declared.log.Log.{Log}
use Rattle.disk_pages.specs.Laws.{IsReformed}
use Rattle.disk_pages.specs.Server.{is_server_page}

-- so many pages that are others, but for the first one: a server's page of format 1, which says the same in format 2
pub record ArePagesStill (n : ℕ) (old new : ℕ → List ℕ) : Type 0 where
  pub first : IsReformed (old 0) (new 0)
  pub sound : is_server_page (new 0) ≡ true
  pub others : (p : ℕ) → 1 ≤ p → p < n → new p ≡ old p

-- so many pages that are others, or these in format 2
abbrev pub IsReformedOr : ℕ → (ℕ → List ℕ) → (ℕ → List ℕ) → Type 0
IsReformedOr n old new = ((p : ℕ) → p < n → new p ≡ old p) ⊎ ArePagesStill n old new

-- A log was brought to format 2: its pages are those, its blocks are the same, and all of it is durable.
pub record Reforms {D : Type 0} (tells : Type 0) (view : D → View) (old new : Log D) : Type 0 where
  pub idle : IsIdle tells view new
  pub superblock : (state_of new).superblock ≡ (state_of old).superblock
  pub half : (state_of new).half ≡ (state_of old).half
  pub last : last_stage (contents_of view new) ≡ 0
  pub settled : IsSettled (view (disk_of new))
  pub pages : tells → is_server_page (stage_in (contents_of view old) 0 0) ≡ true
      → IsReformedOr (state_of old).half.pages
      (stage_in (contents_of view old) 0) (stage_in (contents_of view new) 0)
  pub blocks : tells
      → SameBlocks (state_of old).half.pages (view (disk_of old)).image (view (disk_of new)).image
  pub format : tells → byte_at (page_in (contents_of view new) 0) 29 ≡ 2

-- What a crash leaves of one: the log with the pages as they were, or with those of format 2.
abbrev pub LeavesReformed : {D : Type 0} → (D → View) → Log D → Log D → Type 0
LeavesReformed view old new =
    LeavesOnly (λ c. (pages : ℕ → List ℕ)
    × IsReformedOr (state_of old).half.pages (stage_in (contents_of view old) 0) pages
    × HasPages (state_of old).superblock (state_of old).half.generation pages (view (disk_of old)).image c)
    (view (disk_of old)) (view (disk_of new))

-- A transaction put the facts of a server, and ended; after an error it was undone. No byte of the disk changed.
pub record PutsFormat {D T : Type 0} (tells : Type 0) (view : D → View) (slot : ℕ) (facts : ServerFacts)
    (result : Result T LogFault) (old new : Log D) : Type 0 where
  pub sound : IsSoundLog tells view new
  pub superblock : (state_of new).superblock ≡ (state_of old).superblock
  pub half : (state_of new).half ≡ (state_of old).half
  pub closed : (state_of new).reservations ≡ set (state_of old).reservations slot 0
  pub quiet : IsQuiet (view (disk_of old)) (view (disk_of new))
  pub counted : (view (disk_of old)).faults ≤ (view (disk_of new)).faults
  pub last : OnOk result (last_stage (contents_of view new) ≡ last_stage (contents_of view old) + 1)
  pub stages : tells → (k p : ℕ) → k ≤ last_stage (contents_of view old) → p < (state_of old).half.pages
      → stage_in (contents_of view new) k p ≡ stage_in (contents_of view old) k p
  pub first : tells → OnOk result (SaysFacts facts (page_in (contents_of view new) 0))
  pub others : tells
      → OnOk result ((p : ℕ) → 1 ≤ p → page_in (contents_of view new) p ≡ page_in (contents_of view old) p)
  pub only : IfErr result (λ fault. IsDiskOrMemory fault (view (disk_of old)) (view (disk_of new)))
