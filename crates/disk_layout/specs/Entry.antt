-- The log's entries on the disk.
use Rattle.std.specs.Prelude.{
  ◌≡◌,
  ◌≢◌,
  ◌<◌,
  ◌≤◌,
  ◌⊎◌,
  ℕ,
  ◌+◌,
  List,
  ◌∷◌,
  length,
  Option,
  Some,
  None,
  ◌==◌,
  ◌&&◌,
  ◌||◌,
  if◌then◌else◌,
  nat_lt,
  replicate,
}
use Rattle.std.proofs.Common.{get_or}
use Rattle.base_types.specs.Image.{byte_at, bytes_from}
use Rattle.disk_layout.specs.Numbers.{number_at}
use Rattle.disk_layout.specs.Places.{entry_start}
use Rattle.disk_layout.specs.Until.{until_none}
use Rattle.disk_layout.specs.declared.entry.Entry.{Entry}
use Rattle.disk_layout.specs.declared.half.Half.{Half}
use Rattle.disk_layout.specs.declared.entry.Entry.TheVariants.{Update, End}

-- The entry in these 1,536 bytes of a half, where it counts: its gate is open, its generation is the half's, and it is
-- an end, or an update of a metadata page.
unfoldable pub entry_of : Half → List ℕ → Option Entry
entry_of half bytes =
    if (byte_at bytes 0 == 1) && ((number_at 8 8 bytes == half.generation)
    && ((byte_at bytes 1 == 2) || ((byte_at bytes 1 == 1) && nat_lt (number_at 4 4 bytes) half.pages)))
    then Some (if byte_at bytes 1 == 2 then End (number_at 8 16 bytes)
    else Update (number_at 8 16 bytes) (number_at 4 4 bytes) (bytes_from bytes 512 512) (bytes_from bytes 1024 512))
    else None

-- entry i of a half
unfoldable pub entry_at : Half → List ℕ → ℕ → Option Entry
entry_at half image i = entry_of half (bytes_from image (entry_start half.start i) 1536)

-- the entries of a half: those before the first that doesn't count
unfoldable pub entries : Half → List ℕ → List Entry
entries half image = until_none (entry_at half image) 0 2048

-- the words of an entry as they are written; an end has zeros for its page and its values
abbrev pub kind_of : Entry → ℕ
kind_of (Update transaction page old new) = 1
kind_of (End transaction) = 2

abbrev pub page_named : Entry → ℕ
page_named (Update transaction page old new) = page
page_named (End transaction) = 0

abbrev pub transaction_of : Entry → ℕ
transaction_of (Update transaction page old new) = transaction
transaction_of (End transaction) = transaction

abbrev pub old_of : Entry → List ℕ
old_of (Update transaction page old new) = old
old_of (End transaction) = replicate 512 0

abbrev pub new_of : Entry → List ℕ
new_of (Update transaction page old new) = new
new_of (End transaction) = replicate 512 0

-- these bytes are an entry of this generation, behind an open gate
pub record Spells (entry : Entry) (generation : ℕ) (bytes : List ℕ) : Type 0 where
  pub gate : byte_at bytes 0 ≡ 1
  pub kind : byte_at bytes 1 ≡ kind_of entry
  pub page : number_at 4 4 bytes ≡ page_named entry
  pub generation_is : number_at 8 8 bytes ≡ generation
  pub transaction : number_at 8 16 bytes ≡ transaction_of entry
  pub old : bytes_from bytes 512 512 ≡ old_of entry
  pub new : bytes_from bytes 1024 512 ≡ new_of entry
  pub unnamed : (k : ℕ) → ((2 ≤ k) × (k < 4)) ⊎ ((24 ≤ k) × (k < 512)) → byte_at bytes k ≡ 0

-- an entry can be written in a half
abbrev pub Fits : Half → Entry → Type 0
Fits half (Update transaction page old new) = page < half.pages
Fits half (End transaction) = Unit {0}

-- the gate of entry i of the half that starts there
abbrev pub gate_at : ℕ → List ℕ → ℕ → ℕ
gate_at start image i = byte_at image (entry_start start i)

-- an entry stands in a place of a half, but for its gate
abbrev pub Stands : Half → Entry → List ℕ → ℕ → Type 0
Stands half entry image i = entry_of half (1 ∷ bytes_from image (entry_start half.start i + 1) 1535) ≡ Some entry

-- entries stand from a place on, but for their gates
abbrev pub StandFrom : Half → ℕ → List Entry → List ℕ → Type 0
StandFrom half first news image = (k : ℕ) → k < length news → Stands half (get_or news k (End 0)) image (first + k)

-- so many gates from a place on are open
abbrev pub AreOpen : Half → ℕ → ℕ → List ℕ → Type 0
AreOpen half first n image = (k : ℕ) → k < n → gate_at half.start image (first + k) ≡ 1

-- these are the entries of a half, and the gates behind them are closed
pub record HasEntries (half : Half) (held : List Entry) (image : List ℕ) : Type 0 where
  pub stand : (k : ℕ) → k < length held → Stands half (get_or held k (End 0)) image k
  pub opened : (k : ℕ) → k < length held → gate_at half.start image k ≡ 1
  pub closed : (i : ℕ) → length held ≤ i → i < 2048 → gate_at half.start image i ≢ 1

-- images that differ at most in n entries from a place on, and not in their gates
pub record SameButBodies (start first n : ℕ) (old new : List ℕ) : Type 0 where
  pub gates : (i : ℕ) → gate_at start new i ≡ gate_at start old i
  pub below : (k : ℕ) → k < entry_start start first → byte_at new k ≡ byte_at old k
  pub above : (k : ℕ) → entry_start start (first + n) ≤ k → byte_at new k ≡ byte_at old k

-- images that differ at most in n entries from a place on
pub record SameButThese (start first n : ℕ) (old new : List ℕ) : Type 0 where
  pub below : (k : ℕ) → k < entry_start start first → byte_at new k ≡ byte_at old k
  pub above : (k : ℕ) → entry_start start (first + n) ≤ k → byte_at new k ≡ byte_at old k

-- and not in the gate of the first
pub record SameButEntries (start first n : ℕ) (old new : List ℕ) : Type 0 where
  pub gate : gate_at start new first ≡ gate_at start old first
  pub below : (k : ℕ) → k < entry_start start first → byte_at new k ≡ byte_at old k
  pub above : (k : ℕ) → entry_start start (first + n) ≤ k → byte_at new k ≡ byte_at old k

-- images that differ at most in the gates of n entries from a place on
pub record SameButGates (start first n : ℕ) (old new : List ℕ) : Type 0 where
  pub bodies : (i j : ℕ) → 1 ≤ j
      → j < 1536 → byte_at new (entry_start start i + j) ≡ byte_at old (entry_start start i + j)
  pub below : (k : ℕ) → k < entry_start start first → byte_at new k ≡ byte_at old k
  pub above : (k : ℕ) → entry_start start (first + n) ≤ k → byte_at new k ≡ byte_at old k
