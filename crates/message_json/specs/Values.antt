-- The forms of JSON values of which all others are made.
use Rattle.std.specs.Prelude.{ℕ, List, Option, Some, None, map, flat_map, encode_utf8, decimal}
use Rattle.json.specs.Json.{Json, null, number, string, array, object, no_members, member}
use Rattle.json.specs.Value.{items_of}

-- a number, in decimal digits
unfoldable pub whole : ℕ → Json
whole n = number (decimal n)

-- bytes: a text of one letter for each byte, whose number is the byte's
unfoldable pub letters : List ℕ → Json
letters bytes = string (flat_map encode_utf8 bytes)

-- a list
unfoldable pub list : {A : Type 0} → (A → Json) → List A → Json
list json values = array (items_of (map json values))

-- what may lack
unfoldable pub maybe : {A : Type 0} → (A → Json) → Option A → Json
maybe json None = null
maybe json (Some value) = json value

-- one of several cases, by its name, with what it holds
unfoldable pub tagged : List ℕ → Json → Json
tagged name json = object (member name json no_members)
