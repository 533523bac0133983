-- Metadata pages that were read and are kept.
use Rattle.std.specs.Prelude.{◌≡◌, ℕ, List, Option, Some, None}
use Rattle.std.proofs.Common.{get_or}
use Rattle.disk_layout.specs.declared.entry.Entry.{Entry}
use Rattle.disk_layout.specs.Pages.{redone}
use Rattle.disk_layout.specs.Places.{in_place}

-- each page that is kept is one of these
abbrev pub AreKept : List (Option (List ℕ)) → (ℕ → List ℕ) → Type 0
AreKept pages known = (p : ℕ) (bytes : List ℕ) → get_or pages p None ≡ Some bytes → bytes ≡ known p

-- each page that is kept is what stands in its place, under these entries
abbrev pub HoldsPages : List (Option (List ℕ)) → List Entry → List ℕ → Type 0
HoldsPages pages held image = AreKept pages (redone held (in_place image))
