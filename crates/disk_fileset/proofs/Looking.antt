-- A call that only reads, before one that changes a slot.
use Rattle.std.proofs.Common.{◌≡◌, ◌≤◌, ℕ, List, refl, sym, subst, arith}
use Rattle.std.specs.Prelude.{Result, Ok, Err, IfErr}
use Rattle.std.proofs.lemmas.Result.{on_ok_weaker}
use Rattle.base_types.specs.View.{View}
use Rattle.base_types.specs.Crash.{IsQuiet}
use Rattle.tree_objects.specs.declared.content.Anode.{Anode}
use Rattle.disk_log.specs.Log.{disk_of, state_of, slot_of, IsSoundLog}
use Rattle.disk_log.specs.Puts.{page_of}
use Rattle.disk_log.specs.State.{State}
use Rattle.disk_log.specs.declared.kept.Tx.{Tx}
use Rattle.disk_log.specs.declared.log.Log.{Log}
use Rattle.disk_space.specs.Counts.{count_now}
use Rattle.disk_anode.specs.Faults.{IsNodeFault}
use Rattle.disk_anode.specs.Room.{free_blocks, MayPutAll}
use Rattle.disk_anode.specs.declared.fault.NodeFault.{NodeFault}
use Rattle.disk_anode.specs.declared.fault.NodeFault.TheVariants.{Memory}
use Rattle.disk_anode.proofs.Moving.{puts_none, wrote_quiet}
use Rattle.disk_fileset.specs.Slots.{slot_pages, Held, MayTurn, Turned, ChangesSlot}

module _ {D : Type 0} (tells : Type 0) (view : D → View) (old new : Log D) (same : state_of new ≡ state_of old) (quiet : IsQuiet (view (disk_of old)) (view (disk_of new))) where
  -- it changes nothing
  free_same : free_blocks (state_of new) (view (disk_of new)).image ≡ free_blocks (state_of old) (view (disk_of old)).image
  free_same = λ i. free_blocks (same i) (quiet.image i)

  pub look_changes : {T : Type 0} (slot : ℕ) (value : T) (tx : Tx) → IsSoundLog tells view new → (view (disk_of old)).faults ≤ (view (disk_of new)).faults → ChangesSlot tells view slot 0 (Ok value) old new tx tx
  look_changes slot value tx sound counted = record {
    sound = sound;
    same = refl;
    puts = puts_none (slot_pages slot) (slot_of tx) (state_of old) (state_of new) same;
    pages = λ told p lt off. (λ i. page_of (same i).entries (same i).puts (quiet.image i) p);
    room = λ told. (let e = free_same in omega (arith, e));
    wrote = λ told. wrote_quiet (λ block. count_now (state_of old) (view (disk_of old)).image block) (state_of old) (view (disk_of old)) (view (disk_of new)) quiet;
    counted = counted;
    only = tt;
  }

  pub look_failed : {T : Type 0} (slot blocks : ℕ) (fault : NodeFault) (tx : Tx) → IsSoundLog tells view new → (view (disk_of old)).faults ≤ (view (disk_of new)).faults
      → IsNodeFault fault (view (disk_of old)) (view (disk_of new)) → ChangesSlot {T = T} tells view slot blocks (Err fault) old new tx tx
  look_failed slot blocks fault tx sound counted blame = record {
    sound = sound;
    same = refl;
    puts = puts_none (slot_pages slot) (slot_of tx) (state_of old) (state_of new) same;
    pages = λ told. tt;
    room = λ told. tt;
    wrote = λ told. wrote_quiet (λ block. count_now (state_of old) (view (disk_of old)).image block) (state_of old) (view (disk_of old)) (view (disk_of new)) quiet;
    counted = counted;
    only = blame;
  }

  pub look_held : (holds : (ℕ → List Anode) → State → List ℕ → Type 0) (slots : ℕ → List Anode) → Held holds view slots old → Held holds view slots new
  look_held holds slots held =
      subst (λ (l : List ℕ). holds slots (state_of new) l) (sym quiet.image) (subst (λ (s : State). holds slots s (view (disk_of old)).image) (sym same) held)

  pub look_may : (holds : (ℕ → List Anode) → State → List ℕ → Type 0) (condition : (ℕ → List Anode) → Type 0) (slot blocks : ℕ) (tx : Tx) → IsSoundLog tells view new
      → MayTurn holds tells view condition slot blocks old tx → MayTurn holds tells view condition slot blocks new tx
  look_may holds condition slot blocks tx sound may = record {
    sound = sound;
    may = subst (λ (s : State). MayPutAll (slot_pages slot) s (slot_of tx)) (sym same) may.may;
    held = λ told. (let held = may.held told in (held.0, look_held holds held.0 held.1, held.2));
    room = λ told. (let e = may.room told in let f = free_same in omega (arith, e, f));
  }

-- a condition that follows from what is held, and less room
pub may_where : {D : Type 0} (holds : (ℕ → List Anode) → State → List ℕ → Type 0) (tells : Type 0) (view : D → View) (condition weaker : (ℕ → List Anode) → Type 0) (slot a b : ℕ) (log : Log D) (tx : Tx)
    → a ≤ b → (tells → (slots : ℕ → List Anode) → Held holds view slots log → condition slots → weaker slots) → MayTurn holds tells view condition slot b log tx → MayTurn holds tells view weaker slot a log tx
may_where holds tells view condition weaker slot a b log tx le less may = record {
  sound = may.sound;
  may = may.may;
  held = λ told. (let held = may.held told in (held.0, held.1, less told held.0 held.1 held.2));
  room = λ told. (let e = may.room told in omega (arith, e, le));
}

-- what is held changes so, as follows from it
pub turned_where : {D T : Type 0} (holds : (ℕ → List Anode) → State → List ℕ → Type 0) (tells : Type 0) (view : D → View) (condition weaker : (ℕ → List Anode) → Type 0)
    (change change_2 : (ℕ → List Anode) → ℕ → List Anode) (result : Result T NodeFault) (old new : Log D)
    → (tells → (slots : ℕ → List Anode) → Held holds view slots old → condition slots → weaker slots × (change slots ≡ change_2 slots))
    → Turned holds tells view weaker change result old new → Turned holds tells view condition change_2 result old new
turned_where holds tells view condition weaker change change_2 result old new same one = λ told slots held is.
    (let both = same told slots held is in
    on_ok_weaker result (λ (h : holds (change slots) (state_of new) (view (disk_of new)).image). subst (λ (s : ℕ → List Anode). holds s (state_of new) (view (disk_of new)).image) both.1 h) (one told slots held both.0))

-- want of memory
pub memory_blame : {T : Type 0} (result : Result T NodeFault) (view : View) → result ≡ Err Memory → IfErr result (λ fault. IsNodeFault fault view view)
memory_blame {T = T} result view same = subst (λ (r : Result T NodeFault). IfErr r (λ fault. IsNodeFault fault view view)) (sym same) tt
