-- A store's record that the pages and blocks of a disk have.
use Rattle.std.specs.Prelude.{◌≡◌, ◌≤◌, ◌<◌, ℕ, ◌+◌, ◌*◌, true}
use Rattle.std.specs.Prelude.{List, length, take, replicate, Option, Some, None, is_none}
use Rattle.tree_objects.specs.declared.content.Anode.{Anode}
use Rattle.tree_filesets.specs.Founding.{unused_anode}
use Rattle.store_state.specs.State.{held_at}
use Rattle.store_state.specs.declared.state.Holding.{Holding}
use Rattle.store_state.specs.declared.state.StoreState.{StoreState}
use Rattle.disk_pages.specs.Words.{are_zero}
use Rattle.disk_pages.specs.Puts.{SaysFacts, SaysHeader, SaysNumbers}
use Rattle.disk_objects.specs.Objects.{anode_at}
use Rattle.disk_records.specs.Said.{header_said, facts_said}

-- the anodes of a slot with this holding: those that are held, and behind them no objects
pub record AreHeld (holding : Holding) (anodes : List Anode) : Type 0 where
  pub front : take (length holding.fileset.anodes) anodes ≡ holding.fileset.anodes
  pub rest : (anode : ℕ) → length holding.fileset.anodes < anode → anode ≤ 64
      → is_none (anode_at anodes anode).object ≡ true

pub record SaysHolding (holding : Holding) (anodes : List Anode) (header numbers : List ℕ) : Type 0 where
  pub header_says : SaysHeader (header_said holding) header
  pub numbers_say : SaysNumbers holding.records numbers
  pub anodes_are : AreHeld holding anodes

-- a free slot is zero, and its anodes were never used
pub record SaysNothing (anodes : List Anode) (header numbers : List ℕ) : Type 0 where
  pub header_zero : are_zero 0 512 header ≡ true
  pub numbers_zero : are_zero 0 512 numbers ≡ true
  pub anodes_unused : anodes ≡ replicate 64 unused_anode

abbrev pub SaysSlot : Option Holding → List Anode → List ℕ → List ℕ → Type 0
SaysSlot None anodes header numbers = SaysNothing anodes header numbers
SaysSlot (Some holding) anodes header numbers = SaysHolding holding anodes header numbers

-- what the pages of the server and the headers and numbers of slots say, where these are the anodes of each slot
pub record SaysRecord (state : StoreState) (slots : ℕ → List Anode) (pages : ℕ → List ℕ) : Type 0 where
  pub facts : SaysFacts (facts_said state) (pages 0)
  pub numbers : SaysNumbers state.records (pages 1)
  pub slot : (s : ℕ) → s < 16 → SaysSlot (held_at state.slots s) (slots s) (pages (2 + 66 * s)) (pages (3 + 66 * s))
