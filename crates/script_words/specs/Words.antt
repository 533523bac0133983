use Rattle.std.specs.Prelude.{
  ℕ,
  ◌+◌,
  ◌-◌,
  ◌*◌,
  ◌%◌,
  ◌==◌,
  ◌&&◌,
  ◌||◌,
  Bool,
  nat_lt,
  nat_le,
  if◌then◌else◌,
  List,
  [],
  ◌∷◌,
  ◌++◌,
  length,
  Option,
  Some,
  None,
  Result,
  Ok,
  Err,
}
use Rattle.base_types.specs.declared.limits.TheConstants.{LINE_BYTES_MAX}
use Rattle.script_words.specs.Lines.{without_end, content, says_nothing}
use Rattle.script_words.specs.declared.fault.BadWhy.{BadWhy}
use Rattle.script_words.specs.declared.fault.BadWhy.TheVariants.{Long, Text}
use Rattle.script_words.specs.declared.words.Reader.{Reader}

-- where in a line a reader of words stands: between two words, in one without quotes or in quotes, after a backslash,
-- after its 'x', after the first digit behind that, with its value, or after the quote that ends a word
pub data Mode : Type 0 where
  Between : Mode
  Plain : Mode
  Quoted : Mode
  Escape : Mode
  Hex : Mode
  HalfHex : ℕ → Mode
  Closed : Mode

-- what a byte does: it adds nothing to a word, or this byte, or the word ends
pub data Turn : Type 0 where
  Go : Mode → Turn
  Add : ℕ → Mode → Turn
  End : Turn

-- whether a number lies between two, both counted
abbrev pub is_in : ℕ → ℕ → ℕ → Bool
is_in least most n = nat_le least n && nat_le n most

-- the value of a hexadecimal digit: '0' is 48, 'A' is 65 and 'a' is 97
abbrev pub hex_digit : ℕ → Option ℕ
hex_digit byte =
    if is_in 48 57 byte then Some (byte - 48)
    else (if is_in 65 70 byte then Some (byte - 65 + 10)
    else (if is_in 97 102 byte then Some (byte - 97 + 10) else None))

-- the first digit of an escape, and the second one with the first one's value
abbrev pub half_hex : Option ℕ → Option Turn
half_hex None = None
half_hex (Some digit) = Some (Go (HalfHex digit))

abbrev pub whole_hex : ℕ → Option ℕ → Option Turn
whole_hex high None = None
whole_hex high (Some digit) = Some (Add ((high % 16) * 16 + digit) Quoted)

-- what a byte does in each mode: 32 is a space, 34 a quote, 92 a backslash and 120 an 'x'
abbrev pub turn_by : Mode → ℕ → Option Turn
turn_by Between byte = if byte == 32 then Some (Go Between)
    else (if byte == 34 then Some (Go Quoted) else (if is_in 33 126 byte then Some (Add byte Plain) else None))
turn_by Plain byte = if byte == 32 then Some End else (if is_in 33 126 byte then Some (Add byte Plain) else None)
turn_by Quoted byte = if byte == 34 then Some (Go Closed)
    else (if byte == 92 then Some (Go Escape) else (if is_in 32 126 byte then Some (Add byte Quoted) else None))
turn_by Escape byte =
    if (byte == 34) || (byte == 92) then Some (Add byte Quoted) else (if byte == 120 then Some (Go Hex) else None)
turn_by Hex byte = half_hex (hex_digit byte)
turn_by (HalfHex high) byte = whole_hex high (hex_digit byte)
turn_by Closed byte = if byte == 32 then Some End else None

-- the words at the end of a line, after these and a word of these bytes
abbrev pub ended : List (List ℕ) → List ℕ → Mode → Result (List (List ℕ)) BadWhy
ended words word Between = Ok words
ended words word Plain = Ok (words ++ word ∷ [])
ended words word Closed = Ok (words ++ word ∷ [])
ended words word _ = Err Text

-- what follows a turn, by its kind
abbrev pub by_turn : {A : Type 0}
    → Option Turn → (Mode → Result A BadWhy) → (ℕ → Mode → Result A BadWhy) → Result A BadWhy → Result A BadWhy
by_turn None go add end = Err Text
by_turn (Some (Go mode)) go add end = go mode
by_turn (Some (Add byte mode)) go add end = add byte mode
by_turn (Some End) go add end = end

-- the words of a text, after these and a word of these bytes that isn't ended
abbrev pub words_from : List (List ℕ) → List ℕ → Mode → List ℕ → Result (List (List ℕ)) BadWhy
words_from words word mode [] = ended words word mode
words_from words word mode (byte ∷ text) =
    by_turn (turn_by mode byte)
    (λ next. words_from words word next text)
    (λ meant next. words_from words (word ++ meant ∷ []) next text)
    (words_from (words ++ word ∷ []) [] Between text)

-- the words of a text
unfoldable pub words_of : List ℕ → Result (List (List ℕ)) BadWhy
words_of text = words_from [] [] Between text

-- the words of a line that may end in a line feed; none where it says nothing
unfoldable pub words_of_line : List ℕ → Result (List (List ℕ)) BadWhy
words_of_line line =
    if nat_lt LINE_BYTES_MAX (length (without_end 10 line)) then Err Long
    else (if says_nothing (content line) then Ok [] else words_of (content line))

-- the same of a reader's words so far
abbrev pub said : Reader → Mode → List ℕ → Result (List (List ℕ)) BadWhy
said reader mode text = words_from reader.words reader.word mode text
