-- What a log keeps in memory, apart from pages that were read.
use Rattle.std.specs.Prelude.{
  ◌≡◌,
  ◌≢◌,
  ◌≤◌,
  ◌<◌,
  ◌⊎◌,
  ℕ,
  ◌+◌,
  ◌*◌,
  ◌-◌,
  List,
  [],
  ◌∷◌,
  ◌++◌,
  length,
  set,
  sum,
  take,
  true,
  replicate,
  Option,
}
use Rattle.std.proofs.Common.{get_or}
use Rattle.base_types.specs.View.{View}
use Rattle.disk_layout.specs.declared.entry.Entry.{Entry}
use Rattle.disk_layout.specs.declared.half.Half.{Half}
use Rattle.disk_layout.specs.declared.superblock.Superblock.{Superblock}
use Rattle.disk_layout.specs.Places.{pages_of}
use Rattle.disk_layout.specs.Superblock.{IsSuperblock}
use Rattle.disk_log.specs.Pages.{HoldsPages}
use Rattle.disk_log.specs.Puts.{run_of, without, without_page, count_of, is_put, IsOwn, IsSteady}
use Rattle.disk_log.specs.Switch.{next_half}
use Rattle.disk_log.specs.declared.put.Put.{Put}

-- The superblock; the used half; its entries, and behind the first `forced` of them those that ended since the last
-- force; what the open transactions put; and the entries that they reserved, by slot, and in all.
pub record State : Type 0 where
  pub superblock : Superblock
  pub half : Half
  pub entries : List Entry
  pub forced : ℕ
  pub puts : List Put
  pub reservations : List ℕ
  pub reserved : ℕ

-- a transaction is open
abbrev pub IsOpen : State → ℕ → Type 0
IsOpen state slot = 0 < get_or state.reservations slot 0

-- no transaction is open
abbrev pub HasNoOpen : State → Type 0
HasNoOpen state = (slot : ℕ) → get_or state.reservations slot 0 ≡ 0

-- An open transaction may put a page: no other one put it, and it put the page before or fewer pages than it reserved.
abbrev pub MayPut : State → ℕ → ℕ → Type 0
MayPut state slot page =
    IsOpen state slot × IsOwn slot page state.puts
    × ((is_put slot page state.puts ≡ true) ⊎ (2 * count_of slot state.puts + 2 < get_or state.reservations slot 0))

-- entries that are free
abbrev pub free_in : State → ℕ
free_in state = 2048 - (length state.entries + state.reserved)

-- a transaction has begun that reserves so many entries
abbrev pub begun : State → ℕ → ℕ → State
begun state slot needed =
    record state { reservations = set state.reservations slot needed; reserved = state.reserved + needed }

abbrev pub put_of : ℕ → ℕ → List ℕ → List ℕ → Put
put_of slot page old new = record { slot = slot; page = page; old = old; new = new }

-- a page was put
abbrev pub with_put : State → Put → State
with_put state put = record state { puts = without_page put.page state.puts ++ put ∷ [] }

-- a transaction is closed
abbrev pub closed : State → ℕ → State
closed state slot = record state {
  puts = without slot state.puts;
  reservations = set state.reservations slot 0;
  reserved = state.reserved - get_or state.reservations slot 0;
}

-- a transaction has ended: its entries stand behind the others
abbrev pub ended : State → ℕ → State
ended state slot =
    record (closed state slot) { entries = state.entries ++ run_of slot (length state.entries) state.puts }

-- all that ended is durable
abbrev pub forced_all : State → State
forced_all state = record state { forced = length state.entries }

-- a log without entries
abbrev pub fresh_state : Superblock → Half → State
fresh_state superblock half = record {
  superblock = superblock;
  half = half;
  entries = [];
  forced = 0;
  puts = [];
  reservations = replicate 2048 0;
  reserved = 0;
}

-- all that ended is in its place, and the log goes on in its other half, which has no entries
abbrev pub emptied : State → State
emptied state = fresh_state state.superblock (next_half state.half)

-- the entries that are reserved: there are 2,048 slots, and each open transaction has room for its end and twice the
-- pages that it put
pub record HasRoom (state : State) : Type 0 where
  pub slots : length state.reservations ≡ 2048
  pub in_all : state.reserved ≡ sum state.reservations
  pub room : length state.entries + state.reserved ≤ 2048
  pub enough : (slot : ℕ) → 2 * count_of slot state.puts ≤ get_or state.reservations slot 0 - 1

-- the state of a log that has not failed
pub record IsSound (tells : Type 0) (view : View) (pages : List (Option (List ℕ))) (state : State) : Type 0 where
  pub steady : IsSteady tells view state.half state.entries state.forced state.puts
  pub accounts : HasRoom state
  pub many : state.half.pages ≡ pages_of state.superblock.blocks
  pub blocks : state.superblock.blocks ≤ 66560
  pub front : tells → IsSuperblock state.superblock view.image
  pub slots : length pages ≡ state.half.pages
  -- the pages that were read are kept as the last force left them
  pub kept : tells → HoldsPages pages (take state.forced state.entries) view.image

-- a transaction is the only open one, and reserves so many entries
pub record IsOnly (state : State) (slot reserved : ℕ) : Type 0 where
  pub reserves : get_or state.reservations slot 0 ≡ reserved
  pub others : (other : ℕ) → other ≢ slot → get_or state.reservations other 0 ≡ 0
