-- The entries of a directory, and the bytes in which it keeps them.
use Rattle.std.specs.Prelude.{
  ◌≡◌,
  ◌≤◌,
  ◌<◌,
  ◌^◌,
  ◌-◌,
  ℕ,
  zero,
  suc,
  true,
  false,
  not,
  IsTrue,
  ⊤,
  Option,
  Some,
  None,
  List,
  [],
  ◌∷◌,
  ◌++◌,
  length,
  take,
  drop,
  filter,
  insert,
  replicate,
}
use Rattle.std.proofs.Common.{get_or}
use Rattle.std.specs.Int.{w32, to_be_bytes}
use Rattle.std.specs.Option.{option_map}
use Rattle.base_types.specs.Name.{is_name, is_before, same_name}
use Rattle.tree_calls.specs.declared.part.DirEntry.{DirEntry}
use Rattle.tree_objects.specs.Entries.{entry_named, entry_place}
use Rattle.tree_objects.specs.Sound.{names_rise}
use Rattle.disk_anode.specs.Anode.{Anode}

-- An entry in 72 bytes: the length of its name, the name, zeros up to 64 bytes, and its anode and unique number in four
-- bytes each, the highest first.
abbrev pub entry_bytes : DirEntry → List ℕ
entry_bytes entry =
    length entry.name ∷ entry.name ++ replicate (63 - length entry.name) 0
    ++ to_be_bytes w32 entry.anode ++ to_be_bytes w32 entry.unique

-- the bytes of entries, one after another
abbrev pub bytes_of : List DirEntry → List ℕ
bytes_of [] = []
bytes_of (entry ∷ entries) = entry_bytes entry ++ bytes_of entries

-- an entry that can be written
pub record IsEntry (entry : DirEntry) : Type 0 where
  pub name : IsTrue (is_name entry.name)
  pub anode : entry.anode < 2 ^ 32
  pub unique : entry.unique < 2 ^ 32

-- and each of some
abbrev pub EachFits : List DirEntry → Type 0
EachFits [] = ⊤
EachFits (entry ∷ entries) = IsEntry entry × EachFits entries

-- these bytes are entries in the order of their names
pub record AreEntries (entries : List DirEntry) (bytes : List ℕ) : Type 0 where
  pub laid : bytes ≡ bytes_of entries
  pub each : EachFits entries
  pub rise : names_rise entries ≡ true

-- An anode is a directory of these entries, at most 64, in the order of their names.
pub record IsDirectory (entries : List DirEntry) (anode : Anode) : Type 0 where
  pub kind : anode.kind ≡ 1
  pub length_is : anode.length ≡ length entries
  pub few : length entries ≤ 64
  pub content : (k : ℕ) → anode.content k ≡ get_or (bytes_of entries) k 0
  pub each : EachFits entries
  pub rise : names_rise entries ≡ true

-- an anode with other entries
abbrev pub with_entries : List DirEntry → Anode → Anode
with_entries entries anode = record anode { length = length entries; content = λ k. get_or (bytes_of entries) k 0 }

-- the numbers of the entry of a name
abbrev pub numbers_of : List DirEntry → List ℕ → Option (ℕ × ℕ)
numbers_of entries name = option_map (λ entry. (entry.anode, entry.unique)) (entry_named entries name)

-- entries without that of a name
abbrev pub without : List ℕ → List DirEntry → List DirEntry
without name entries = filter (λ entry. not (same_name entry.name name)) entries

-- entries with another, at its place in the order of names
abbrev pub entered : DirEntry → List DirEntry → List DirEntry
entered entry entries = insert entries (entry_place entries entry.name) entry

-- the name of an entry, by its place
abbrev pub name_in : List DirEntry → ℕ → List ℕ
name_in [] i = []
name_in (entry ∷ entries) zero = entry.name
name_in (entry ∷ entries) (suc i) = name_in entries i

-- where the entry of a name stands, and what is left without it
abbrev pub IsNamedAt : List DirEntry → List ℕ → Option ℕ → Type 0
IsNamedAt entries name None = (entry_named entries name ≡ None) × (without name entries ≡ entries)
IsNamedAt entries name (Some i) =
    (entry : DirEntry) × (rest : List DirEntry)
    × (drop i entries ≡ entry ∷ rest) × (entry_named entries name ≡ Some entry)
    × (without name entries ≡ take i entries ++ rest)

-- a name goes to a place: it comes before the entries from there on, and before none of the others
pub record IsPlace (entries : List DirEntry) (name : List ℕ) (place : ℕ) : Type 0 where
  pub within : place ≤ length entries
  pub below : (i : ℕ) → i < place → is_before name (name_in entries i) ≡ false
  pub above : (i : ℕ) → place ≤ i → i < length entries → is_before name (name_in entries i) ≡ true
