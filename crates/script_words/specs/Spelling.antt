use Rattle.std.specs.Prelude.{◌≡◌, ℕ, ◌+◌, ◌<◌, ◌/◌, ◌%◌, ◌==◌, ◌||◌, nat_lt, if◌then◌else◌, List, [], ◌∷◌, Ok}
use Rattle.std.specs.List.{AllByRecursion}
use Rattle.script_words.specs.Words.{is_in, words_of}

-- a hexadecimal digit, with small letters
abbrev pub hex_of : ℕ → ℕ
hex_of n = if nat_lt n 10 then n + 48 else n + 87

-- a byte between quotes, before what follows it
abbrev pub spelled_byte : ℕ → List ℕ → List ℕ
spelled_byte byte rest =
    if (byte == 34) || (byte == 92) then 92 ∷ byte ∷ rest
    else (if is_in 32 126 byte then byte ∷ rest else 92 ∷ 120 ∷ hex_of (byte / 16) ∷ hex_of (byte % 16) ∷ rest)

-- bytes between quotes, before what follows them
abbrev pub spelled_bytes : List ℕ → List ℕ → List ℕ
spelled_bytes [] rest = rest
spelled_bytes (byte ∷ bytes) rest = spelled_byte byte (spelled_bytes bytes rest)

-- words in quotes, each with a space after it
abbrev pub spelled : List (List ℕ) → List ℕ
spelled [] = []
spelled (word ∷ words) = 34 ∷ spelled_bytes word (34 ∷ 32 ∷ spelled words)

-- a byte is below 256
abbrev pub IsByte : ℕ → Type 0
IsByte n = n < 256

-- words are lists of bytes
abbrev pub AreWords : List (List ℕ) → Type 0
AreWords words = AllByRecursion (AllByRecursion IsByte) words

-- any words at all are read back from their spelling
abbrev pub WordsAreReadBack : Type 0
WordsAreReadBack = (words : List (List ℕ)) → AreWords words → words_of (spelled words) ≡ Ok words
