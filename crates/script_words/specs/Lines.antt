use Rattle.std.specs.Prelude.{
  ℕ,
  suc,
  ◌-◌,
  ◌==◌,
  Bool,
  true,
  false,
  not,
  if◌then◌else◌,
  List,
  [],
  ◌∷◌,
  length,
  take,
  slice_get,
  Option,
  Some,
  None,
}
use Rattle.std.specs.List.{find}

-- a byte before the first line
abbrev pub begun_by : ℕ → List (List ℕ) → List (List ℕ)
begun_by byte [] = (byte ∷ []) ∷ []
begun_by byte (line ∷ lines) = (byte ∷ line) ∷ lines

-- the lines of a text, each with the line feed that ends it; the last may lack it
unfoldable pub lines_of : List ℕ → List (List ℕ)
lines_of [] = []
lines_of (byte ∷ bytes) = if byte == 10 then (byte ∷ []) ∷ lines_of bytes else begun_by byte (lines_of bytes)

-- how many bytes the first line has
abbrev pub line_len : List ℕ → ℕ
line_len [] = 0
line_len (byte ∷ bytes) = if byte == 10 then 1 else suc (line_len bytes)

-- a byte that is this one
abbrev pub is_this : ℕ → Option ℕ → Bool
is_this byte None = false
is_this byte (Some other) = other == byte

-- whether a line ends in this byte
abbrev pub ends_in : ℕ → List ℕ → Bool
ends_in byte line = is_this byte (slice_get line (length line - 1))

-- a line without this byte at its end
unfoldable pub without_end : ℕ → List ℕ → List ℕ
without_end byte line = if ends_in byte line then take (length line - 1) line else line

-- a line without its line feed, and without a carriage return before that
unfoldable pub content : List ℕ → List ℕ
content line = if ends_in 10 line then without_end 13 (without_end 10 line) else line

-- the first byte that isn't a space
abbrev pub first_mark : List ℕ → Option ℕ
first_mark text = find (λ byte. not (byte == 32)) text

-- nothing is said without a byte but spaces, and after a '#'
abbrev pub is_nothing : Option ℕ → Bool
is_nothing None = true
is_nothing (Some byte) = byte == 35

-- whether a text says nothing
abbrev pub says_nothing : List ℕ → Bool
says_nothing text = is_nothing (first_mark text)
