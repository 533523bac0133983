-- Entries that can be written.
use Rattle.disk_layout.specs.Places.{SameButBlocks}
use Rattle.std.specs.Prelude.{◌≡◌, ◌<◌, ◌≤◌, ℕ, List, length}
use Rattle.std.proofs.Common.{get_or}
use Rattle.base_types.specs.Image.{byte_at}
use Rattle.base_types.specs.View.{View}
use Rattle.disk_layout.specs.Entry.{Fits}
use Rattle.disk_layout.specs.declared.half.Half.{Half}
use Rattle.disk_layout.specs.declared.entry.Entry.{Entry}
use Rattle.disk_layout.specs.declared.entry.Entry.TheVariants.{End}

abbrev pub AllFit : Half → List Entry → Type 0
AllFit half news = (k : ℕ) → k < length news → Fits half (get_or news k (End 0))

-- between two forces a crash leaves blocks alone as they are not
abbrev pub LeavesBlocks : ℕ → View → Type 0
LeavesBlocks pages view = (d : List ℕ) → view.may_leave d → SameButBlocks pages view.image d

-- the same pages in place and the same blocks
abbrev pub SameRest : List ℕ → List ℕ → Type 0
SameRest old new = (at : ℕ) → 6292992 ≤ at → byte_at new at ≡ byte_at old at
