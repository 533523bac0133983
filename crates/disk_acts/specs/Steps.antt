-- The steps of an act, in its transaction.
use Rattle.std.specs.Prelude.{
  ◌≡◌,
  ◌≢◌,
  ◌≤◌,
  ◌<◌,
  ℕ,
  ◌+◌,
  ◌*◌,
  true,
  not,
  Bool,
  List,
  length,
  replicate,
  Option,
  Some,
  None,
  Result,
  Ok,
  Err,
  OnOk,
  OnErr,
  IfOk,
  IfErr,
}
use Rattle.std.proofs.Common.{get_or}
use Rattle.base_types.specs.View.{View}
use Rattle.store_state.specs.declared.state.StoreState.{StoreState}
use Rattle.tree_objects.specs.declared.content.Anode.{Anode}
use Rattle.disk_log.specs.Contents.{Keeps, contents_of, over, page_in}
use Rattle.disk_log.specs.Log.{disk_of, state_of, slot_of, IsSoundLog}
use Rattle.disk_log.specs.State.{State, begun, closed, ended}
use Rattle.disk_log.specs.declared.kept.Tx.{Tx}
use Rattle.disk_log.specs.declared.log.Log.{Log}
use Rattle.disk_log.specs.declared.fault.LogFault.{LogFault}
use Rattle.disk_anode.specs.Faults.{IsNodeFault, log_fault}
use Rattle.disk_anode.specs.Room.{free_blocks, MayPutAll, PutsPages}
use Rattle.disk_anode.specs.declared.fault.NodeFault.{NodeFault}
use Rattle.disk_anode.specs.declared.fault.NodeFault.TheVariants.{Memory}
use Rattle.disk_fileset.specs.Slots.{slot_pages, Keeps as AnodesAre, WroteUnused}
use Rattle.store_state.specs.declared.state.Holding.{Holding}
use Rattle.disk_pages.specs.Puts.{SaysFacts, SaysHeader, SaysNumbers}
use Rattle.disk_objects.specs.Holds.{is_anode}
use Rattle.tree_filesets.specs.Founding.{unused_anode}
use Rattle.store_acts.specs.declared.act.Act.{Act}
use Rattle.store_state.specs.State.{held_at}
use Rattle.disk_records.specs.Said.{header_said, facts_said}
use Rattle.disk_records.specs.Stored.{AreHeld}
use Rattle.disk_acts.specs.Acts.{act_pages, act_blocks}
use Rattle.disk_acts.specs.Touched.{IsMade}
use Rattle.disk_acts.specs.declared.touched.Before.{Before}
use Rattle.disk_acts.specs.Records.{HasNow}

-- an answer of the log, among those of anodes
abbrev pub node_result : {T : Type 0} → Result T LogFault → Result T NodeFault
node_result (Ok value) = Ok value
node_result (Err fault) = Err (log_fault fault)

-- a transaction has begun in a free slot, which reserves 717 entries
pub record HasBegun (slot : ℕ) (old new : State) : Type 0 where
  pub there : slot < length old.reservations
  pub free : get_or old.reservations slot 0 ≡ 0
  pub state : new ≡ begun old slot 717

-- The transaction of an act begins, or memory ran out and the log is as before.
pub record Begins {D : Type 0}
    (tells : Type 0) (view : D → View) (result : Result Tx NodeFault) (old new : Log D) : Type 0 where
  pub keeps : Keeps tells view 0 old new
  pub disk : disk_of new ≡ disk_of old
  pub opened : IfOk result (λ tx. HasBegun (slot_of tx) (state_of old) (state_of new))
  pub unopened : OnErr result (state_of new ≡ state_of old)
  pub only : IfErr result (λ fault. fault ≡ Memory)

-- The transaction ended, and the pages are as it put them.
pub record HasEnded {D : Type 0} (tells : Type 0) (view : D → View) (slot : ℕ) (old new : Log D) : Type 0 where
  pub keeps : Keeps tells view 1 old new
  pub state : state_of new ≡ ended (state_of old) slot
  pub pages : (image : List ℕ) (p : ℕ) → page_in (over image new) p ≡ page_in (over image old) p

-- or it was undone
pub record IsUndone {D : Type 0} (tells : Type 0) (view : D → View) (slot : ℕ) (old new : Log D) : Type 0 where
  pub keeps : Keeps tells view 0 old new
  pub state : state_of new ≡ closed (state_of old) slot

-- It ended where what it had to put was put; else it was undone.
pub record Finishes {D T : Type 0}
    (tells : Type 0) (view : D → View) (slot : ℕ) (put : Result T NodeFault) (old new : Log D) : Type 0 where
  pub disk : disk_of new ≡ disk_of old
  pub ended : OnOk put (HasEnded tells view slot old new)
  pub undone : OnErr put (IsUndone tells view slot old new)

-- A step may be done in an open transaction, which may put some pages, with so many free blocks.
pub record MayStep {D : Type 0}
    (tells : Type 0) (view : D → View) (pages : ℕ → Bool) (blocks : ℕ) (log : Log D) (tx : Tx) : Type 0 where
  pub sound : IsSoundLog tells view log
  pub may : MayPutAll pages (state_of log) (slot_of tx)
  pub room : tells → blocks ≤ free_blocks (state_of log) (view (disk_of log)).image

-- What a step keeps: it puts these pages alone, and writes unused blocks alone, of which it takes so many at most.
pub record Steps {D T : Type 0} (tells : Type 0) (view : D → View) (pages : ℕ → Bool) (blocks : ℕ)
    (result : Result T NodeFault) (old new : Log D) (tx changed : Tx) : Type 0 where
  pub sound : IsSoundLog tells view new
  pub same : changed ≡ tx
  pub puts : PutsPages pages (slot_of tx) (state_of old) (state_of new)
  pub room : tells → OnOk result (free_blocks (state_of old) (view (disk_of old)).image
      ≤ free_blocks (state_of new) (view (disk_of new)).image + blocks)
  pub wrote : tells → WroteUnused (state_of old) (view (disk_of old)) (view (disk_of new))
  pub counted : (view (disk_of old)).faults ≤ (view (disk_of new)).faults
  pub only : IfErr result (λ fault. IsNodeFault fault (view (disk_of old)) (view (disk_of new)))

-- A page says something from now on. The other pages of the server and of filesets are the same, and all anodes.
pub record IsSaid {D : Type 0} (view : D → View) (page : ℕ) (P : List ℕ → Type 0) (old new : Log D) : Type 0 where
  pub here : P (page_in (contents_of view new) page)
  pub others : (p : ℕ) → p < 1058 → p ≢ page → page_in (contents_of view new) p ≡ page_in (contents_of view old) p
  pub anodes : (slots : ℕ → List Anode) → AnodesAre view slots old → AnodesAre view slots new

abbrev pub SaysPage : {D T : Type 0} → Type 0 → (D → View) → ℕ → (List ℕ → Type 0) → Result T NodeFault → Log D → Log D
    → Type 0
SaysPage tells view page P result old new = tells → OnOk result (IsSaid view page P old new)

-- the pages of the server, of headers and of numbers, and those of counts
abbrev pub beside_anodes : ℕ → Bool
beside_anodes p = not (is_anode p)

-- The pages of the server say the record of a store from now on.
pub record ServerIsSaid {D : Type 0} (view : D → View) (state : StoreState) (old new : Log D) : Type 0 where
  pub facts : SaysFacts (facts_said state) (page_in (contents_of view new) 0)
  pub numbers : SaysNumbers state.records (page_in (contents_of view new) 1)
  pub others : (p : ℕ) → 2 ≤ p → p < 1058 → page_in (contents_of view new) p ≡ page_in (contents_of view old) p
  pub anodes : (slots : ℕ → List Anode) → AnodesAre view slots old → AnodesAre view slots new

-- The header of a slot and the numbers behind it say a holding from now on.
pub record SlotIsSaid {D : Type 0} (view : D → View) (slot : ℕ) (holding : Holding) (old new : Log D) : Type 0 where
  pub header : SaysHeader (header_said holding) (page_in (contents_of view new) (2 + 66 * slot))
  pub numbers : SaysNumbers holding.records (page_in (contents_of view new) (3 + 66 * slot))
  pub others : (p : ℕ) → p < 1058 → p ≢ 2 + 66 * slot → p ≢ 3 + 66 * slot
      → page_in (contents_of view new) p ≡ page_in (contents_of view old) p
  pub anodes : (slots : ℕ → List Anode) → AnodesAre view slots old → AnodesAre view slots new

-- So do they of what is held in a slot; where nothing is, all pages are the same.
pub record HeldIsSaid {D : Type 0} (view : D → View) (slot : ℕ) (held : Option Holding) (old new : Log D) : Type 0 where
  pub header : (holding : Holding) → held ≡ Some holding
      → SaysHeader (header_said holding) (page_in (contents_of view new) (2 + 66 * slot))
  pub numbers : (holding : Holding) → held ≡ Some holding
      → SaysNumbers holding.records (page_in (contents_of view new) (3 + 66 * slot))
  pub free : held ≡ None → (p : ℕ) → p < 1058
      → page_in (contents_of view new) p ≡ page_in (contents_of view old) p
  pub others : (p : ℕ) → p < 1058 → p ≢ 2 + 66 * slot → p ≢ 3 + 66 * slot
      → page_in (contents_of view new) p ≡ page_in (contents_of view old) p
  pub anodes : (slots : ℕ → List Anode) → AnodesAre view slots old → AnodesAre view slots new

-- the anodes of a slot are those of what is held there; those of a free one were never used
abbrev pub SlotAnodes : Option Holding → List Anode → Type 0
SlotAnodes None list = list ≡ replicate 64 unused_anode
SlotAnodes (Some holding) list = AreHeld holding list

abbrev pub HoldsAnodes : StoreState → (ℕ → List Anode) → Type 0
HoldsAnodes state slots = (s : ℕ) → s < 16 → SlotAnodes (held_at state.slots s) (slots s)

-- The anodes of one slot are those of what is held there from now on, and those of the others are as they were. So are
-- the pages of the server, of headers and of numbers.
pub record SlotIsPut {D : Type 0} (view : D → View) (slot : ℕ) (held : Option Holding) (slots : ℕ → List Anode)
    (old new : Log D) : Type 0 where
  pub after : ℕ → List Anode
  pub keeps : AnodesAre view after new
  pub pages : (p : ℕ) → p < 1058 → not (slot_pages slot p) ≡ true
      → page_in (contents_of view new) p ≡ page_in (contents_of view old) p
  pub others : (s : ℕ) → s ≢ slot → after s ≡ slots s
  pub free : held ≡ None → after slot ≡ slots slot
  pub here : (holding : Holding) → held ≡ Some holding → AreHeld holding (after slot)

-- What an act asks where it puts anodes of a slot.
pub record MayPutSlot {D : Type 0} (tells : Type 0) (view : D → View) (act : Act) (before : Before) (next : StoreState)
    (log : Log D) (tx : Tx) : Type 0 where
  pub made : (old : StoreState) × IsMade old act before next
  pub step : MayStep tells view (act_pages before.slot) (act_blocks act) log tx
  pub held : tells → (old : StoreState) × IsMade old act before next
      × ((slots : ℕ → List Anode) × AnodesAre view slots log × HoldsAnodes old slots)

abbrev pub PutsSlot : {D T : Type 0} → Type 0 → (D → View) → Act → Before → StoreState → Option Holding
    → Result T NodeFault → Log D → Log D → Type 0
PutsSlot tells view act before next held result old new = tells → (was : StoreState) → IsMade was act before next
    → (slots : ℕ → List Anode) → AnodesAre view slots old → HoldsAnodes was slots
    → OnOk result (SlotIsPut view before.slot held slots old new)

-- All slots below one say what is held there from now on.
pub record AllSaid {D : Type 0} (view : D → View) (n : ℕ) (state : StoreState) (old new : Log D) : Type 0 where
  pub header : (s : ℕ) (holding : Holding) → s < n → held_at state.slots s ≡ Some holding
      → SaysHeader (header_said holding) (page_in (contents_of view new) (2 + 66 * s))
  pub numbers : (s : ℕ) (holding : Holding) → s < n → held_at state.slots s ≡ Some holding
      → SaysNumbers holding.records (page_in (contents_of view new) (3 + 66 * s))
  pub free : (s : ℕ) → s < 16 → held_at state.slots s ≡ None
      → (page_in (contents_of view new) (2 + 66 * s) ≡ page_in (contents_of view old) (2 + 66 * s))
      × (page_in (contents_of view new) (3 + 66 * s) ≡ page_in (contents_of view old) (3 + 66 * s))
  pub server : (p : ℕ) → p < 2 → page_in (contents_of view new) p ≡ page_in (contents_of view old) p
  pub anodes : (slots : ℕ → List Anode) → AnodesAre view slots old → AnodesAre view slots new

-- The record that the pages say becomes another one.
abbrev pub SaysNext : {D T : Type 0} → Type 0 → (D → View) → StoreState → StoreState → Result T NodeFault → Log D
    → Log D → Type 0
SaysNext tells view state next result old new =
    tells → HasNow state (state_of old) (view (disk_of old)).image
    → OnOk result (HasNow next (state_of new) (view (disk_of new)).image)
