-- What is kept of members, by their numbers.
use Rattle.std.specs.Prelude.{◌≡◌, ◌≢◌, ◌⊎◌, ◌<◌, ℕ, zero, suc, ◌+◌, ◌*◌, List, [], ◌∷◌, ◌++◌, length, set, sum_by}
use Rattle.std.specs.Prelude.{Option, Some, None, Contains, ◌==◌, if◌then◌else◌, MatchOption, MatchBool}
use Rattle.std.proofs.Common.{get_or}
use Rattle.disk_classes.specs.Joined.{Note, IsJoining, AreTogether, IsWithPage}
use Rattle.disk_classes.specs.declared.member.Noted.{Noted}
use Rattle.disk_classes.specs.declared.members.Value.{Value}
use Rattle.disk_classes.specs.declared.member.Standing.{Standing}
use Rattle.disk_classes.specs.declared.member.Standing.TheVariants.{Vacant, Open, Ended}

-- a number that no member has, which is a class by itself
abbrev pub vacant : ℕ → Noted
vacant number = record { standing = Vacant; limit = 0; pages = []; class = number; joined = [] }

-- a member that began, and may put so many pages
abbrev pub fresh : ℕ → ℕ → Noted
fresh number limit = record { standing = Open; limit = limit; pages = []; class = number; joined = number ∷ [] }

-- what is kept under a number
abbrev pub noted_at : List Noted → ℕ → Noted
noted_at members number = get_or members number (vacant number)

-- what callers know of it
abbrev pub note_of : Noted → Note
note_of noted = record { standing = noted.standing; limit = noted.limit; pages = noted.pages }

abbrev pub notes_in : List Noted → ℕ → Note
notes_in members number = note_of (noted_at members number)

-- a member is kept under a number, the next or one before it
abbrev pub IsPlaced : ℕ → Noted → List Noted → List Noted → Type 0
IsPlaced number one old new =
    ((number < length old) × (new ≡ set old number one)) ⊎ ((number ≡ length old) × (new ≡ old ++ one ∷ []))

-- the entries of the log that a member needs: its end, and twice the pages that it may put
abbrev pub entries_of : Standing → ℕ → ℕ
entries_of Vacant limit = 0
entries_of Open limit = 2 * limit + 1
entries_of Ended limit = 2 * limit + 1

-- and those that all members need with numbers below one
unfoldable pub needs_below : ℕ → (ℕ → Note) → ℕ
needs_below zero notes = 0
needs_below (suc n) notes = needs_below n notes + entries_of (notes n).standing (notes n).limit

abbrev pub needed_by : Noted → ℕ
needed_by noted = entries_of noted.standing noted.limit

-- those that all members need which aren't yet committed
abbrev pub needed_in : List Noted → ℕ
needed_in members = sum_by needed_by members

-- the number of a member's class
abbrev pub class_of : List Noted → ℕ → ℕ
class_of members number = (noted_at members number).class

-- the members of a class
abbrev pub joined_at : List Noted → ℕ → List ℕ
joined_at members class = (noted_at members class).joined

-- some members have all ended
abbrev pub AreEndedAll : List Noted → List ℕ → Type 0
AreEndedAll members some = (m : ℕ) → Contains some m → (noted_at members m).standing ≡ Ended

-- members come into another class
abbrev pub renumbered : ℕ → List ℕ → List Noted → List Noted
renumbered class [] members = members
renumbered class (m ∷ rest) members =
    renumbered class rest (set members m (record (noted_at members m) { class = class }))

-- the members of one class came into another
pub record Joins (from into : ℕ) (old new : List Noted) : Type 0 where
  pub size : length new ≡ length old
  pub notes : (m : ℕ) → notes_in new m ≡ notes_in old m
  pub moved : (m : ℕ) → Contains (joined_at old from) m → class_of new m ≡ into
  pub stayed : (m : ℕ) → (Contains (joined_at old from) m → ⊥) → class_of new m ≡ class_of old m
  pub all : joined_at new into ≡ joined_at old into ++ joined_at old from
  pub none : joined_at new from ≡ []
  pub rest : (c : ℕ) → c ≢ into → c ≢ from → joined_at new c ≡ joined_at old c

-- the class of a member joins that of a page that was put, if they are two
abbrev pub JoinsPage : ℕ → ℕ → List (Option Value) → List Noted → List Noted → Type 0
JoinsPage member page values old new = MatchOption (get_or values page None) (new ≡ old)
    (λ (value : Value). MatchBool (class_of old member == class_of old value.member) (new ≡ old)
    (Joins (class_of old member) (class_of old value.member) old new
    ⊎ Joins (class_of old value.member) (class_of old member) old new))

-- a page is noted as one that a member put
abbrev pub IsNoted : ℕ → ℕ → List Noted → List Noted → Type 0
IsNoted member page old new =
    (more : List ℕ) × IsWithPage page (noted_at old member).pages more
    × (new ≡ set old member (record (noted_at old member) { pages = more }))

-- and its class joins that of the page
abbrev pub NotesPage : ℕ → ℕ → List (Option Value) → List Noted → List Noted → Type 0
NotesPage member page values old new =
    (more : List ℕ) × IsWithPage page (noted_at old member).pages more
    × JoinsPage member page values (set old member (record (noted_at old member) { pages = more })) new

-- how many pages the members of a class noted
abbrev pub pages_by : ℕ → Noted → ℕ
pages_by class noted = if noted.class == class then length noted.pages else 0

abbrev pub pages_in_class : ℕ → List Noted → ℕ
pages_in_class class members = sum_by (pages_by class) members

-- a member of a class put a page
abbrev pub IsPutIn : ℕ → List Noted → ℕ → Type 0
IsPutIn class members p = (m : ℕ) × (class_of members m ≡ class) × Contains (noted_at members m).pages p

-- numbers of a class are vacant again, from a number on
abbrev pub vacated : ℕ → ℕ → List Noted → List Noted
vacated class number [] = []
vacated class number (noted ∷ rest) =
    (if noted.class == class then vacant number else noted) ∷ vacated class (number + 1) rest

-- some pages have no value
abbrev pub cleared : List ℕ → List (Option Value) → List (Option Value)
cleared [] values = values
cleared (p ∷ rest) values = cleared rest (set values p None)

-- the bytes of a value
abbrev pub bytes_in : Option Value → Option (List ℕ)
bytes_in None = None
bytes_in (Some value) = Some value.bytes

-- the class of a member of each number, and of each list of members under the number of a class
pub record ArePartition (members : List Noted) : Type 0 where
  pub inside : (c m : ℕ) → Contains (joined_at members c) m
      → (class_of members m ≡ c) × (noted_at members m).standing ≢ Vacant
  pub listed : (m : ℕ) → (noted_at members m).standing ≢ Vacant → Contains (joined_at members (class_of members m)) m
  pub named : (m : ℕ) → (noted_at members m).standing ≢ Vacant
      → (noted_at members (class_of members m)).standing ≢ Vacant
      × (class_of members (class_of members m) ≡ class_of members m)
  pub none : (m : ℕ) → (noted_at members m).standing ≡ Vacant
      → ((noted_at members m).pages ≡ []) × (class_of members m ≡ m)
  pub joining : IsJoining (notes_in members) (class_of members)
  pub finest : (m n : ℕ) → class_of members m ≡ class_of members n → AreTogether (notes_in members) m n

-- only so many pages have values
abbrev pub AreWithin : ℕ → List (Option Value) → Type 0
AreWithin pages values = (p : ℕ) (value : Value) → get_or values p None ≡ Some value → p < pages

-- a page has a value where a member put it, which is that of such a member
pub record AreValues (members : List Noted) (values : List (Option Value)) : Type 0 where
  pub by_one : (p : ℕ) (value : Value) → get_or values p None ≡ Some value
      → Contains (noted_at members value.member).pages p
  pub there : (m p : ℕ) → Contains (noted_at members m).pages p
      → (value : Value) × (get_or values p None ≡ Some value)
