-- The steps of a reader of words.
use Rattle.std.specs.Prelude.{ℕ, suc, ◌+◌, ◌*◌, ◌%◌, ◌==◌, ◌&&◌, ◌||◌, Bool}
use Rattle.std.specs.Prelude.{false, not, if◌then◌else◌, List, [], ◌∷◌, take, drop, Option, Some, None}
use Rattle.script_words.specs.Words.{is_in, hex_digit}

-- how many bytes at the front stand for themselves outside quotes
abbrev pub plain_len : List ℕ → ℕ
plain_len [] = 0
plain_len (byte ∷ bytes) = if is_in 33 126 byte then suc (plain_len bytes) else 0

-- whether a byte stands for itself in quotes, and how many at the front do
abbrev pub is_text : ℕ → Bool
is_text byte = is_in 32 126 byte && not (byte == 34) && not (byte == 92)

abbrev pub quoted_len : List ℕ → ℕ
quoted_len [] = 0
quoted_len (byte ∷ bytes) = if is_text byte then suc (quoted_len bytes) else 0

-- what an escape means, and how many bytes it has behind its backslash
abbrev pub hex_byte : Option ℕ → Option ℕ → Option (ℕ × ℕ)
hex_byte (Some high) (Some low) = Some ((high % 16) * 16 + low, 3)
hex_byte _ _ = None

abbrev pub hex_at : List ℕ → Option (ℕ × ℕ)
hex_at (high ∷ low ∷ bytes) = hex_byte (hex_digit high) (hex_digit low)
hex_at _ = None

abbrev pub escape_at : List ℕ → Option (ℕ × ℕ)
escape_at [] = None
escape_at (byte ∷ bytes) =
    if (byte == 34) || (byte == 92) then Some (byte, 1) else (if byte == 120 then hex_at bytes else None)

-- how many bytes at the front are spaces
abbrev pub space_len : List ℕ → ℕ
space_len [] = 0
space_len (byte ∷ bytes) = if byte == 32 then suc (space_len bytes) else 0

-- how many bytes stand before a separator, or are all
abbrev pub part_len : ℕ → List ℕ → ℕ
part_len separator [] = 0
part_len separator (byte ∷ bytes) = if byte == separator then 0 else suc (part_len separator bytes)

-- whether a text begins with neither a space nor a quote, and whether with neither a quote nor a backslash
abbrev pub begins_plain : List ℕ → Bool
begins_plain [] = false
begins_plain (byte ∷ bytes) = not (byte == 32) && not (byte == 34)

abbrev pub begins_run : List ℕ → Bool
begins_run [] = false
begins_run (byte ∷ bytes) = not (byte == 34) && not (byte == 92)

-- what follows a word that ends where this begins: all behind a space, or nothing
abbrev pub behind : List ℕ → Option (List ℕ)
behind [] = Some []
behind (byte ∷ bytes) = if byte == 32 then Some bytes else None

-- the word without quotes that a text begins with, behind spaces, and what follows it
abbrev pub with_rest : List ℕ → Option (List ℕ) → Option (List ℕ × List ℕ)
with_rest word None = None
with_rest word (Some rest) = Some (word, rest)

abbrev pub front_at : List ℕ → Option (List ℕ × List ℕ)
front_at text =
    if begins_plain text then with_rest (take (plain_len text) text) (behind (drop (plain_len text) text)) else None

abbrev pub front_of : List ℕ → Option (List ℕ × List ℕ)
front_of text = front_at (drop (space_len text) text)
