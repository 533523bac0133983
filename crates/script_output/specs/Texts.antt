-- How bytes are written in the output. 34 is a quote and 47 a '/'.
use Rattle.std.specs.Prelude.{ℕ, ◌==◌, ◌&&◌, Bool, false, not, if◌then◌else◌, List, [], ◌∷◌, flat_map}
use Rattle.std.specs.List.{list_all}
use Rattle.script_words.specs.Words.{is_in}
use Rattle.script_words.specs.Spelling.{spelled_bytes}

-- bytes between quotes, those that aren't printed by escapes
unfoldable pub quoted : List ℕ → List ℕ
quoted bytes = 34 ∷ spelled_bytes bytes (34 ∷ [])

-- whether bytes begin with a quote
abbrev pub begins_with_quote : List ℕ → Bool
begins_with_quote [] = false
begins_with_quote (byte ∷ bytes) = byte == 34

-- whether a script can have these bytes as a word without quotes
unfoldable pub is_plain : List ℕ → Bool
is_plain bytes = list_all (is_in 33 126) bytes && not (begins_with_quote bytes)

-- a path, a name or a list: as it is where it can be, else between quotes
unfoldable pub word_text : List ℕ → List ℕ
word_text bytes = if is_plain bytes then bytes else quoted bytes

-- the path of these names, each after a '/'
abbrev pub path_of : List (List ℕ) → List ℕ
path_of names = flat_map (λ name. 47 ∷ name) names
