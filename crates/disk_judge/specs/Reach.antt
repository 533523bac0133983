-- What is known of reach while links are gone through.
use Rattle.std.specs.Prelude.{◌≡◌, ◌≤◌, ◌<◌, ℕ, ◌+◌, Bool, false, List, length}
use Rattle.std.proofs.Common.{get_or}
use Rattle.disk_image.specs.Reach.{is_within}
use Rattle.disk_image.specs.declared.found.Link.{Link}

-- each link comes from an anode of a slot
abbrev pub AreFromAnodes : List Link → Type 0
AreFromAnodes links = (k : ℕ) (other : Link) → k < length links → (1 ≤ (get_or links k other).from)
    × ((get_or links k other).from ≤ 64)

-- for each anode, whether at most so many links in a row lead to it
abbrev pub AreWithin : List Link → ℕ → List Bool → Type 0
AreWithin links steps reached = (i : ℕ) → i < 64 → get_or reached i false ≡ is_within links steps (i + 1)
