use Rattle.std.specs.Prelude.{
  ℕ,
  ◌==◌,
  nat_lt,
  bit_or,
  if◌then◌else◌,
  List,
  [],
  ◌∷◌,
  ◌++◌,
  length,
  Option,
  Some,
  None,
  Result,
  Ok,
  Err,
  codes,
}
use Rattle.base_types.specs.Name.{is_name}
use Rattle.base_types.specs.Access.{is_access_list}
use Rattle.base_types.specs.declared.access.Who.{Who}
use Rattle.base_types.specs.declared.access.Who.TheVariants.{UserObj, User, GroupObj, Group, OtherObj, MaskObj}
use Rattle.base_types.specs.declared.access.AccessEntry.{AccessEntry}
use Rattle.script_words.specs.Outcome.{◌>>=◌}
use Rattle.script_words.specs.Fields.{is_word, parts_of, word_at}
use Rattle.script_words.specs.declared.fault.BadWhy.{BadWhy}
use Rattle.script_words.specs.declared.fault.BadWhy.TheVariants.{BadList}

-- the right of a letter, of "rwxcid"
abbrev pub right_of : ℕ → Option ℕ
right_of letter =
    if letter == 114 then Some 1
    else (if letter == 119 then Some 2
    else (if letter == 120 then Some 4
    else (if letter == 99 then Some 8
    else (if letter == 105 then Some 16
    else (if letter == 100 then Some 32 else None)))))

-- a right that comes after these
abbrev pub next_right : ℕ → Option ℕ → Result ℕ BadWhy
next_right rights None = Err BadList
next_right rights (Some right) = if nat_lt rights right then Ok (bit_or rights right) else Err BadList

-- the rights of letters in their order, after these
abbrev pub rights_from : ℕ → List ℕ → Result ℕ BadWhy
rights_from rights [] = Ok rights
rights_from rights (letter ∷ letters) = next_right rights (right_of letter) >>= (λ more. rights_from more letters)

-- rights by their letters, or "-" for none
unfoldable pub rights_of : List ℕ → Result ℕ BadWhy
rights_of word =
    if is_word word (codes "-") then Ok 0
    else (if length word == 0 then Err BadList else rights_from 0 word)

-- whom a word without a name speaks of
unfoldable pub plain_who : List ℕ → Result Who BadWhy
plain_who word =
    if is_word word (codes "user_obj") then Ok UserObj
    else (if is_word word (codes "group_obj") then Ok GroupObj
    else (if is_word word (codes "other_obj") then Ok OtherObj
    else (if is_word word (codes "mask_obj") then Ok MaskObj else Err BadList)))

-- a name in a list
abbrev pub name_in_list : List ℕ → Result (List ℕ) BadWhy
name_in_list bytes = if is_name bytes then Ok bytes else Err BadList

-- whom a kind and a name speak of
unfoldable pub named_who : List ℕ → List ℕ → Result Who BadWhy
named_who kind name =
    if is_word kind (codes "user") then name_in_list name >>= (λ n. Ok (User n))
    else (if is_word kind (codes "group") then name_in_list name >>= (λ n. Ok (Group n)) else Err BadList)

-- an entry
abbrev pub entry : Who → ℕ → AccessEntry
entry who rights = record { who = who; rights = rights }

-- WHO:RIGHTS or KIND:NAME:RIGHTS
unfoldable pub entry_of : List (List ℕ) → Result AccessEntry BadWhy
entry_of (word ∷ letters ∷ []) = do
  who ← plain_who word
  rights ← rights_of letters
  Ok (entry who rights)
entry_of (kind ∷ name ∷ letters ∷ []) = do
  who ← named_who kind name
  rights ← rights_of letters
  Ok (entry who rights)
entry_of _ = Err BadList

-- these entries, and those of the parts
abbrev pub entries_from : List AccessEntry → List (List ℕ) → Result (List AccessEntry) BadWhy
entries_from entries [] = Ok entries
entries_from entries (part ∷ parts) =
    entry_of (parts_of 58 part) >>= (λ more. entries_from (entries ++ more ∷ []) parts)

-- entries between commas that together are an access list
unfoldable pub list_at : List (List ℕ) → ℕ → Result (List AccessEntry) BadWhy
list_at words i = do
  word ← word_at words i
  entries ← entries_from [] (parts_of 44 word)
  if is_access_list entries then Ok entries else Err BadList
