-- Access lists, and the bytes in which a block keeps one.
use Rattle.std.specs.Prelude.{◌≡◌, ◌<◌, ◌+◌, ℕ, ⊤, IsTrue, List, [], ◌∷◌, ◌++◌, length, Result, Ok, Err}
use Rattle.std.proofs.Common.{get_or}
use Rattle.base_types.specs.View.{View}
use Rattle.base_types.specs.Access.{is_access_list}
use Rattle.base_types.specs.Name.{is_name}
use Rattle.base_types.specs.declared.access.AccessEntry.{AccessEntry}
use Rattle.base_types.specs.declared.access.Who.{Who}
use Rattle.base_types.specs.declared.access.Who.TheVariants.{UserObj, User, GroupObj, Group, OtherObj, MaskObj}
use Rattle.disk_log.specs.Log.{disk_of, state_of}
use Rattle.disk_log.specs.declared.log.Log.{Log}
use Rattle.disk_anode.specs.Anode.{anode_in}
use Rattle.base_types.specs.declared.access.ListRefused.{ListRefused}
use Rattle.base_types.specs.declared.access.ListRefused.TheVariants.{BadList, Memory}

-- whom an entry speaks of: a number from 1 to 6, and for a user and a group the length of the name and the name
abbrev pub who_bytes : Who → List ℕ
who_bytes UserObj = 1 ∷ []
who_bytes (User name) = 2 ∷ length name ∷ name
who_bytes GroupObj = 3 ∷ []
who_bytes (Group name) = 4 ∷ length name ∷ name
who_bytes OtherObj = 5 ∷ []
who_bytes MaskObj = 6 ∷ []

-- an entry: whom it speaks of, and the rights
abbrev pub entry_bytes : AccessEntry → List ℕ
entry_bytes entry = who_bytes entry.who ++ entry.rights ∷ []

abbrev pub entries_bytes : List AccessEntry → List ℕ
entries_bytes [] = []
entries_bytes (entry ∷ entries) = entry_bytes entry ++ entries_bytes entries

-- a list: how many entries it has, and these
abbrev pub list_bytes : List AccessEntry → List ℕ
list_bytes entries = length entries ∷ entries_bytes entries

-- names in an entry are names, and its rights are rights
abbrev pub FitsWho : Who → Type 0
FitsWho (User name) = IsTrue (is_name name)
FitsWho (Group name) = IsTrue (is_name name)
FitsWho _ = ⊤

abbrev pub FitsEntry : AccessEntry → Type 0
FitsEntry entry = FitsWho entry.who × (entry.rights < 64)

abbrev pub EachFits : List AccessEntry → Type 0
EachFits [] = ⊤
EachFits (entry ∷ entries) = FitsEntry entry × EachFits entries

-- A block holds an access list, with zeros behind it.
pub record HoldsList (entries : List AccessEntry) (block : ℕ → ℕ) : Type 0 where
  pub bytes : (k : ℕ) → k < 1024 → block k ≡ get_or (list_bytes entries) k 0
  pub list : IsTrue (is_access_list entries)
  pub each : EachFits entries

-- the block of a list in a log's anode
abbrev pub list_in : {D : Type 0} → (D → View) → Log D → ℕ → ℕ → ℕ → ℕ
list_in view log page which = (anode_in (state_of log) (view (disk_of log)).image page).lists which

-- these bytes begin with some at a place
abbrev pub StartsAt : List ℕ → ℕ → List ℕ → Type 0
StartsAt bytes at piece = (k : ℕ) → k < length piece → get_or bytes (at + k) 0 ≡ get_or piece k 0

-- what stands at a place: a name behind its length, whom an entry speaks of, an entry
abbrev pub NameStands : List ℕ → ℕ → List ℕ → Type 0
NameStands bytes at name = IsTrue (is_name name) × StartsAt bytes at (length name ∷ name)

abbrev pub WhoStands : List ℕ → ℕ → Who → Type 0
WhoStands bytes at who = FitsWho who × StartsAt bytes at (who_bytes who)

abbrev pub EntryStands : List ℕ → ℕ → AccessEntry → Type 0
EntryStands bytes at entry = FitsEntry entry × StartsAt bytes at (entry_bytes entry)

-- what is read where a value stands: this value, or memory ran out
abbrev pub IsReadAs : {A : Type 0} → A → Result A ListRefused → Type 0
IsReadAs value (Ok made) = made ≡ value
IsReadAs value (Err Memory) = ⊤
IsReadAs value (Err BadList) = ⊥
