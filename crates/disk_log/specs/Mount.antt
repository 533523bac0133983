-- What a mount answers.
use Rattle.std.specs.Prelude.{◌≡◌, ◌⊎◌, ◌<◌, ℕ, List, [], length, IsTrue, ⊤}
use Rattle.std.proofs.Common.{get_or}
use Rattle.base_types.specs.Faults.{RoseBy}
use Rattle.base_types.specs.View.{View}
use Rattle.base_types.specs.Crash.{IsQuiet}
use Rattle.disk_layout.specs.declared.half.Half.{Half}
use Rattle.disk_layout.specs.declared.superblock.Superblock.{Superblock}
use Rattle.disk_layout.specs.Places.{pages_of, SameBlocks}
use Rattle.disk_layout.specs.Half.{HasLog, HasNoLog}
use Rattle.disk_layout.specs.Pages.{pages_in, HasPages}
use Rattle.disk_log.specs.Puts.{page_of}
use Rattle.disk_log.specs.State.{State, fresh_state}
use Rattle.disk_log.specs.Switch.{next_half}
use Rattle.disk_log.specs.declared.fault.LogFault.{LogFault}
use Rattle.disk_log.specs.declared.fault.LogFault.TheVariants.{Failed, Full, NotALog, Memory}

-- the bytes of a disk are a log whose generation is the last one
pub record IsWorn (place : ℕ) (image : List ℕ) : Type 0 where
  pub place_is : place ≡ 512
  pub superblock : Superblock
  pub half : Half
  pub log : HasLog superblock half image
  pub last : half.generation ≡ 18446744073709551615

-- A call changed no byte, or else from some moment on a crash leaves what has P alone. So what is read has P too.
abbrev pub IsQuietOr : (List ℕ → Type 0) → View → View → Type 0
IsQuietOr P old new = IsQuiet old new ⊎ ((c : List ℕ) → new.may_leave c → P c)

-- A look for a log failed: the disk did, or memory ran out, or there is no log.
abbrev pub IsSettledFault : Type 0 → LogFault → View → View → Type 0
IsSettledFault tells Failed old new = RoseBy 1 old.faults new.faults × IsTrue new.last_failed
IsSettledFault tells Memory old new = ⊤
IsSettledFault tells (NotALog place) old new = tells → HasNoLog place old.image
IsSettledFault tells (Full free needed) old new = ⊥

-- all metadata pages of the log in an image, after redo and undo
pub record AreSettled (image : List ℕ) (pages : List (List ℕ)) : Type 0 where
  pub superblock : Superblock
  pub half : Half
  pub log : HasLog superblock half image
  pub size : length pages ≡ pages_of superblock.blocks
  pub each : (p : ℕ) → p < length pages → get_or pages p [] ≡ pages_in half image p

-- A mount failed: the disk did, or memory ran out, there is no log, or its generation is the last one, and no byte was
-- changed.
abbrev pub IsMountFault : Type 0 → LogFault → View → View → Type 0
IsMountFault tells Failed old new = RoseBy 1 old.faults new.faults × IsTrue new.last_failed
IsMountFault tells Memory old new = IsQuiet old new
IsMountFault tells (NotALog place) old new =
    IsQuiet old new × (tells → HasNoLog place old.image ⊎ IsWorn place old.image)
IsMountFault tells (Full free needed) old new = ⊥

-- A log was mounted: its pages are those of the disk's bytes after redo and undo, its blocks are the same, and its
-- other half is used, of the next generation and without entries.
pub record IsMounted (old new : List ℕ) (state : State) : Type 0 where
  pub half : Half
  pub log : HasLog state.superblock half old
  pub unworn : half.generation < 18446744073709551615
  pub state_is : state ≡ fresh_state state.superblock (next_half half)
  pub pages : (p : ℕ) → p < pages_of state.superblock.blocks
      → page_of state.entries state.puts new p ≡ pages_in half old p
  pub blocks : SameBlocks (pages_of state.superblock.blocks) old new

-- Bytes of a disk that are a log with the same superblock, pages and blocks, whose used half is of the same generation
-- or the next.
pub record IsSameLog (old c : List ℕ) : Type 0 where
  pub superblock : Superblock
  pub half : Half
  pub log : HasLog superblock half old
  pub same : HasPages superblock half.generation (pages_in half old) old c
