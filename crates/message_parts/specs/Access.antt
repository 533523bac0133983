-- Access lists.
use Rattle.std.specs.Prelude.{
  ℕ,
  zero,
  suc,
  ◌+◌,
  ◌==◌,
  ◌&&◌,
  ◌||◌,
  Bool,
  true,
  false,
  not,
  nat_le,
  if◌then◌else◌,
  List,
  [],
  ◌∷◌,
  ◌++◌,
  Ok,
}
use Rattle.std.specs.List.{list_any}
use Rattle.base_types.specs.Name.{is_among}
use Rattle.base_types.specs.Access.{has_who, is_access_list}
use Rattle.base_types.specs.declared.access.Who.{Who}
use Rattle.base_types.specs.declared.access.Who.TheVariants.{UserObj, User, GroupObj, Group, OtherObj, MaskObj}
use Rattle.base_types.specs.declared.access.AccessEntry.{AccessEntry}
use Rattle.message_parts.specs.Spelled.{Spelled, ◌&◌, nothing, number, counted}
use Rattle.message_parts.specs.Reading.{Reading, ◌>>=◌, number_at, byte_at}
use Rattle.message_parts.specs.Words.{is_plain, spell_name}
use Rattle.message_parts.specs.Places.{spell_rights, rights_at}

abbrev pub who_tag : Who → ℕ
who_tag UserObj = 1
who_tag (User name) = 2
who_tag GroupObj = 3
who_tag (Group name) = 4
who_tag OtherObj = 5
who_tag MaskObj = 6

abbrev pub spell_who_name : Who → Spelled
spell_who_name (User name) = spell_name name
spell_who_name (Group name) = spell_name name
spell_who_name _ = nothing

unfoldable pub spell_access_entry : AccessEntry → Spelled
spell_access_entry entry = number 1 1 6 (who_tag entry.who) & spell_who_name entry.who & spell_rights entry.rights

-- The rule holds of all entries together.
unfoldable pub spell_access : List AccessEntry → Spelled
spell_access entries = record { fits = is_access_list entries; bytes = [] } & counted 1 3 16 spell_access_entry entries

-- whether an entry of the list has this tag
abbrev pub has_tag : List AccessEntry → ℕ → Bool
has_tag entries tag = list_any (λ entry. who_tag entry.who == tag) entries

-- 1 where an entry of the object is missing
abbrev pub lacks_who : List AccessEntry → Who → ℕ
lacks_who entries who = if has_who entries who then 0 else 1

-- how many entries of the object are missing
abbrev pub missing : List AccessEntry → ℕ
missing entries = lacks_who entries UserObj + lacks_who entries GroupObj + lacks_who entries OtherObj

-- Whether an entry with this tag can follow these, where so many more come behind it: an entry of the object or a mask
-- stands once, and
-- the others leave room for the entries of the object.
abbrev pub can_follow : ℕ → List AccessEntry → ℕ → Bool
can_follow lacking entries tag =
    if tag == 1 then not (has_who entries UserObj)
    else if tag == 3 then not (has_who entries GroupObj)
    else if tag == 5 then not (has_who entries OtherObj)
    else if tag == 6 then not (has_who entries MaskObj) && nat_le (missing entries) lacking
    else ((tag == 2) || (tag == 4)) && nat_le (missing entries) lacking

-- the names of users among the entries, or of groups
abbrev pub with_name : Bool → Who → List (List ℕ) → List (List ℕ)
with_name false (User name) names = name ∷ names
with_name true (Group name) names = name ∷ names
with_name _ _ names = names

abbrev pub names_in : Bool → List AccessEntry → List (List ℕ)
names_in group [] = []
names_in group (entry ∷ entries) = with_name group entry.who (names_in group entries)

-- a name that lacks no byte is none of these
abbrev pub may_be : List (List ℕ) → ℕ → List ℕ → Bool
may_be taken zero name = not (is_among taken name)
may_be taken (suc lacking) name = true

-- the rest of a name that is none of these, of which so many bytes lack
abbrev pub fresh_from : List (List ℕ) → ℕ → List ℕ → List ℕ → Reading (List ℕ)
fresh_from taken zero front rest = Ok (front, rest)
fresh_from taken (suc lacking) front rest =
    byte_at (λ byte. is_plain byte && may_be taken lacking (front ++ byte ∷ [])) rest >>= λ byte rest.
    fresh_from taken lacking (front ++ byte ∷ []) rest

unfoldable pub fresh_name_at : List (List ℕ) → List ℕ → Reading (List ℕ)
fresh_name_at taken rest = number_at 1 1 60 rest >>= λ count rest. fresh_from taken count [] rest

unfoldable pub who_at : List AccessEntry → ℕ → List ℕ → Reading Who
who_at entries tag rest =
    if tag == 1 then Ok (UserObj, rest)
    else if tag == 2 then (fresh_name_at (names_in false entries) rest >>= λ name rest. Ok (User name, rest))
    else if tag == 3 then Ok (GroupObj, rest)
    else if tag == 4 then (fresh_name_at (names_in true entries) rest >>= λ name rest. Ok (Group name, rest))
    else if tag == 5 then Ok (OtherObj, rest)
    else Ok (MaskObj, rest)

-- the next entry, where so many more come behind it
unfoldable pub next_entry_at : ℕ → List AccessEntry → List ℕ → Reading AccessEntry
next_entry_at lacking entries rest =
    byte_at (can_follow lacking entries) rest >>= λ tag rest. who_at entries tag rest >>= λ who rest.
    rights_at rest >>= λ rights rest.
    Ok (record { who = who; rights = rights }, rest)

abbrev pub access_from : ℕ → List AccessEntry → List ℕ → Reading (List AccessEntry)
access_from zero entries rest = Ok (entries, rest)
access_from (suc lacking) entries rest =
    next_entry_at lacking entries rest >>= λ entry rest. access_from lacking (entries ++ entry ∷ []) rest

unfoldable pub access_at : List ℕ → Reading (List AccessEntry)
access_at rest = number_at 1 3 16 rest >>= λ count rest. access_from count [] rest
