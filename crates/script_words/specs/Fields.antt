use Rattle.std.specs.Prelude.{
  ℕ,
  ◌+◌,
  ◌-◌,
  ◌*◌,
  ◌==◌,
  ◌&&◌,
  ◌||◌,
  Bool,
  false,
  nat_le,
  if◌then◌else◌,
  List,
  [],
  ◌∷◌,
  ◌++◌,
  length,
  slice_get,
  Option,
  Some,
  None,
  Result,
  Ok,
  Err,
}
use Rattle.std.specs.List.{list_all}
use Rattle.base_types.specs.Name.{is_name, same_name}
use Rattle.base_types.specs.declared.limits.TheConstants.{HOSTS_MAX, SERVERS_MAX, WRITE_BYTES_MAX}
use Rattle.script_words.specs.declared.fields.TheConstants.{LABEL_BYTES_MAX}
use Rattle.base_types.specs.declared.ids.Node.{Node}
use Rattle.base_types.specs.declared.ids.Node.TheVariants.{Host, Server}
use Rattle.script_words.specs.Outcome.{◌>>=◌, found}
use Rattle.script_words.specs.Words.{is_in, words_of_line}
use Rattle.script_words.specs.declared.fault.BadWhy.{BadWhy}
use Rattle.script_words.specs.declared.fault.BadWhy.TheVariants.{Text, Word, Number, BadName}

-- a word must stand at each place that a line has
abbrev pub word_at : List (List ℕ) → ℕ → Result (List ℕ) BadWhy
word_at words i = found Word (slice_get words i)

-- and none after them
abbrev pub end_at : List (List ℕ) → ℕ → Result (Unit {0}) BadWhy
end_at words i = if nat_le (length words) i then Ok tt else Err Word

-- bytes that must be a name
abbrev pub named : List ℕ → Result (List ℕ) BadWhy
named bytes = if is_name bytes then Ok bytes else Err BadName

-- a name at a place
unfoldable pub name_at : List (List ℕ) → ℕ → Result (List ℕ) BadWhy
name_at words i = do
  word ← word_at words i
  named word

-- digits, capital and small letters
abbrev pub is_label_byte : ℕ → Bool
is_label_byte byte = is_in 48 57 byte || is_in 65 90 byte || is_in 97 122 byte

-- at most 16 of them
abbrev pub is_label : List ℕ → Bool
is_label bytes = nat_le (length bytes) LABEL_BYTES_MAX && list_all is_label_byte bytes

-- a flag or a label is a name of at most 16 digits and letters
unfoldable pub label_at : List (List ℕ) → ℕ → Result (List ℕ) BadWhy
label_at words i = do
  word ← word_at words i
  if is_label word then named word else Err BadName

-- zeros at the front, but for zero itself
abbrev pub starts_with_zero : List ℕ → Bool
starts_with_zero (byte ∷ _ ∷ _) = byte == 48
starts_with_zero _ = false

-- the value of decimal digits after those that make a number; none past the greatest one
abbrev pub value_from : ℕ → ℕ → List ℕ → Option ℕ
value_from most value [] = Some value
value_from most value (byte ∷ bytes) =
    if is_in 48 57 byte && nat_le (value * 10 + (byte - 48)) most
    then value_from most (value * 10 + (byte - 48)) bytes
    else None

-- the number that digits spell, without zeros at the front
unfoldable pub number_up_to : ℕ → List ℕ → Option ℕ
number_up_to most word = if (length word == 0) || starts_with_zero word then None else value_from most 0 word

-- a number that is at least so great
abbrev pub at_least : ℕ → Option ℕ → Option ℕ
at_least least None = None
at_least least (Some n) = if nat_le least n then Some n else None

-- a number within limits at a place
unfoldable pub number_at : ℕ → ℕ → List (List ℕ) → ℕ → Result ℕ BadWhy
number_at least most words i = do
  word ← word_at words i
  found Number (at_least least (number_up_to most word))

-- the bytes of a write at a place
unfoldable pub text_at : List (List ℕ) → ℕ → Result (List ℕ) BadWhy
text_at words i = do
  word ← word_at words i
  if nat_le (length word) WRITE_BYTES_MAX then Ok word else Err Text

-- nodes by their numbers, from 1
abbrev pub host_node : ℕ → Node
host_node n = Host (record { 0 = n })

abbrev pub server_node : ℕ → Node
server_node n = Server (record { 0 = n })

abbrev pub numbered : (ℕ → Node) → Option ℕ → Option Node
numbered node None = None
numbered node (Some n) = if n == 0 then None else Some (node n)

-- 'c' and a host's number, or 's' and a server's
unfoldable pub node_of : List ℕ → Option Node
node_of [] = None
node_of (letter ∷ digits) =
    if letter == 99 then numbered host_node (number_up_to HOSTS_MAX digits)
    else (if letter == 115 then numbered server_node (number_up_to SERVERS_MAX digits) else None)

-- whether a word is this one
unfoldable pub is_word : List ℕ → List ℕ → Bool
is_word word text = same_name word text

-- whether the second of these words is this one
abbrev pub asks : List ℕ → List (List ℕ) → Bool
asks verb (node ∷ word ∷ words) = is_word word verb
asks verb _ = false

-- the words of a line whose second word is this one
abbrev pub asking : List ℕ → Result (List (List ℕ)) BadWhy → Option (List (List ℕ))
asking verb (Ok words) = if asks verb words then Some words else None
asking verb (Err why) = None

unfoldable pub words_asking : List ℕ → List ℕ → Option (List (List ℕ))
words_asking line verb = asking verb (words_of_line line)

-- the parts of bytes between separators, after these and a part of these bytes that isn't ended
abbrev pub parts_from : ℕ → List (List ℕ) → List ℕ → List ℕ → List (List ℕ)
parts_from separator parts part [] = parts ++ part ∷ []
parts_from separator parts part (byte ∷ bytes) =
    if byte == separator then parts_from separator (parts ++ part ∷ []) [] bytes
    else parts_from separator parts (part ++ byte ∷ []) bytes

-- the parts of bytes between separators
unfoldable pub parts_of : ℕ → List ℕ → List (List ℕ)
parts_of separator bytes = parts_from separator [] [] bytes

-- these names, and those that the words are
abbrev pub all_named : List (List ℕ) → List (List ℕ) → Result (List (List ℕ)) BadWhy
all_named names [] = Ok names
all_named names (word ∷ words) = named word >>= (λ name. all_named (names ++ name ∷ []) words)

-- the names of a path, each after a '/'
unfoldable pub names_of : List ℕ → Result (List (List ℕ)) BadWhy
names_of [] = Err BadName
names_of (byte ∷ bytes) = if byte == 47 then all_named [] (parts_of 47 bytes) else Err BadName
