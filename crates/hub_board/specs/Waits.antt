-- Where lines wait for flags.
use Rattle.std.specs.Prelude.{◌≡◌, ℕ, List, true, Some, slice_get}
use Rattle.script_lines.specs.Index.{is_in, places_of}
use Rattle.hub_board.specs.Follows.{waits_for}
use Rattle.hub_board.specs.declared.follow.Mark.{Mark}

-- each line that waits for a flag stands at one of these places
abbrev pub AreWaiting : List ℕ → List Mark → List ℕ → Type 0
AreWaiting flag marks places = (place : ℕ) (mark : Mark) → slice_get marks place ≡ Some mark → waits_for flag mark
    ≡ true
    → is_in places place ≡ true

-- and so for each flag
abbrev pub AreKnown : List Mark → List (List ℕ) → Type 0
AreKnown marks slots = (flag : List ℕ) → AreWaiting flag marks (places_of slots flag)
