-- Where names stand, found by their slots.
use Rattle.std.specs.Prelude.{◌≡◌, ℕ, ◌+◌, ◌*◌, ◌%◌, ◌==◌, Bool, true, false, List, [], ◌∷◌, slice_get, slice_index_or, Some}
use Rattle.std.specs.List.{list_any}
use Rattle.std.specs.Option.{option_map_or}
use Rattle.base_types.specs.Name.{same_name}
use Rattle.script_lines.specs.declared.index.TheConstants.{SLOTS}

abbrev pub slot_from : ℕ → List ℕ → ℕ
slot_from slot [] = slot
slot_from slot (byte ∷ name) = slot_from ((slot * 31 + byte) % SLOTS) name

-- the slot of a name
abbrev pub slot_of : List ℕ → ℕ
slot_of name = slot_from 0 name

-- where a name may stand: the places in its slot
abbrev pub places_of : List (List ℕ) → List ℕ → List ℕ
places_of slots name = slice_index_or slots (slot_of name) []

-- whether a place is one of these
abbrev pub is_in : List ℕ → ℕ → Bool
is_in places place = list_any (λ other. other == place) places

-- the places of each name stay
abbrev pub StayIn : List (List ℕ) → List (List ℕ) → Type 0
StayIn before now = (name : List ℕ) (place : ℕ) → is_in (places_of before name) place ≡ true
    → is_in (places_of now name) place ≡ true

-- each name of a list is found at its place
abbrev pub AreFound : List (List ℕ) → List (List ℕ) → Type 0
AreFound names slots = (place : ℕ) (name : List ℕ) → slice_get names place ≡ Some name
    → is_in (places_of slots name) place ≡ true

-- whether a name stands at a place
abbrev pub is_at : List (List ℕ) → List ℕ → ℕ → Bool
is_at names name place = option_map_or (λ other. same_name other name) (slice_get names place) false
