-- The anodes of a slot, once they were put.
use Rattle.std.proofs.Common.{◌≡◌, ◌<◌, ◌≤◌, ℕ, zero, suc, ◌-◌, List, length, map, replicate, take, refl, sym, ◌∙◌, ap, subst, arith, Option, Some, None}
use Rattle.std.specs.Prelude.{true, false, not, Result, Ok, is_none, slice_get, unwrap_or, ◌&&◌}
use Rattle.std.specs.Option.{option_map_or}
use Rattle.std.proofs.lemmas.Bool.{false≢true}
use Rattle.base_types.specs.Lists.{changed_at}
use Rattle.base_types.specs.View.{View}
use Rattle.base_types.specs.declared.ids.Fid.{Fid}
use Rattle.base_types.specs.declared.ids.HostId.{HostId}
use Rattle.base_types.specs.declared.ids.ServerId.{ServerId}
use Rattle.tree_calls.specs.declared.call.Call.TheVariants.{CloneFileset}
use Rattle.tree_calls.specs.declared.part.Piece.{Piece}
use Rattle.tree_objects.specs.declared.content.Anode.{Anode}
use Rattle.tree_objects.specs.Changes.{anode_changed}
use Rattle.tree_filesets.specs.Founding.{unused_anode}
use Rattle.tree_filesets.specs.Laws.{is_file_at}
use Rattle.store_acts.specs.Acts.{act_done}
use Rattle.store_acts.specs.declared.act.Act.{Act}
use Rattle.store_acts.specs.declared.act.Act.TheVariants.{Boot, Do, Give, Left, Settle, Part}
use Rattle.store_state.specs.Giving.{content_given, held_given}
use Rattle.store_state.specs.State.{held_at, is_of, is_writable, slot_so}
use Rattle.store_state.specs.declared.state.Holding.{Holding}
use Rattle.store_state.specs.declared.state.StoreState.{StoreState}
use Rattle.disk_log.specs.Log.{disk_of, state_of, slot_of}
use Rattle.disk_log.specs.declared.kept.Tx.{Tx}
use Rattle.disk_log.specs.declared.log.Log.{Log}
use Rattle.disk_anode.specs.declared.fault.NodeFault.{NodeFault}
use Rattle.disk_anode.proofs.Putting.{may_fewer}
use Rattle.disk_objects.specs.Objects.{anode_at, with_slot}
use Rattle.disk_objects.proofs.Places.{slot_here, slot_other}
use Rattle.disk_fileset.specs.Slots.{slot_pages, Keeps as AnodesAre, SamePages, IsFile, AllVacant, MayChange, TurnsInto, ChangesSlot}
use Rattle.disk_fileset.proofs.Changing.{on_ok_two}
use Rattle.disk_records.specs.Stored.{AreHeld}
use Rattle.disk_acts.specs.Acts.{act_pages, act_blocks}
use Rattle.disk_acts.specs.Anodes.{IsAt, AreAt, replaced}
use Rattle.disk_acts.specs.Seen.{seen_anode}
use Rattle.disk_acts.specs.Steps.{SlotAnodes, HoldsAnodes, MayPutSlot, PutsSlot}
use Rattle.disk_acts.specs.Touched.{renews, anodes_before, IsMade}
use Rattle.disk_acts.specs.declared.seen.SeenAnode.{SeenAnode}
use Rattle.disk_acts.specs.declared.touched.Before.{Before}
use Rattle.disk_acts.proofs.Seeing.{AllTold}
use Rattle.disk_acts.proofs.Touching.{HeldTold, act_touches}
use Rattle.disk_acts.proofs.Stepping.{slot_among}
use Rattle.disk_acts.proofs.Renewing.{held_replaced, at_before}
use Rattle.disk_acts.proofs.Giving.{IsFileHeld, given_is, is_given, not_given, file_held, file_there, held_changed_to}
use Rattle.disk_acts.proofs.Cloning.{clone_is, held_cloned}

some_is : (a b : Holding) → ◌≡◌ {A = Option Holding} (Some a) (Some b) → a ≡ b
some_is a b e = cc

-- what a call on the slot asks
pub may_slot : {D : Type 0} (tells : Type 0) (view : D → View) (act : Act) (before : Before) (next : StoreState) (condition : (ℕ → List Anode) → Type 0) (blocks : ℕ) (log : Log D) (tx : Tx) → blocks ≤ act_blocks act
    → ((old : StoreState) (slots : ℕ → List Anode) → IsMade old act before next → AnodesAre view slots log → HoldsAnodes old slots → condition slots)
    → MayPutSlot tells view act before next log tx → MayChange tells view condition before.slot blocks log tx
may_slot tells view act before next condition blocks log tx le meets may = record {
  sound = may.step.sound;
  may = may_fewer (slot_pages before.slot) (act_pages before.slot) (state_of log) (slot_of tx) (slot_among before.slot) may.step.may;
  held = λ told. (let held = may.held told in let slots = held.2.0 in (slots, held.2.1, meets held.0 slots held.1 held.2.1 held.2.2));
  room = λ told. (let room = may.step.room told in omega (arith, room, le));
}

-- what it leaves
pub puts_slot : {D T : Type 0} (tells : Type 0) (view : D → View) (act : Act) (before : Before) (next : StoreState) (holding : Holding) (condition : (ℕ → List Anode) → Type 0) (list : (ℕ → List Anode) → List Anode) (blocks : ℕ)
    (result : Result T NodeFault) (old new : Log D) (tx changed : Tx)
    → ((was : StoreState) (slots : ℕ → List Anode) → IsMade was act before next → AnodesAre view slots old → HoldsAnodes was slots → condition slots × AreHeld holding (list slots))
    → TurnsInto tells view condition (λ slots. with_slot before.slot (list slots) slots) result old new → ChangesSlot tells view before.slot blocks result old new tx changed
    → PutsSlot tells view act before next (Some holding) result old new
puts_slot {D = D} tells view act before next holding condition list blocks result old new tx changed meets turns changes told was made slots keeps holds =
    let both = meets was slots made keeps holds in
    on_ok_two result (λ (now : AnodesAre view (with_slot before.slot (list slots) slots) new) (pages : SamePages (λ p. not (slot_pages before.slot p)) (state_of old) (view (disk_of old)).image (state_of new) (view (disk_of new)).image). record {
      after = with_slot before.slot (list slots) slots;
      keeps = now;
      pages = λ p low off. pages p low off;
      others = λ s apart. slot_other slots before.slot s (list slots) apart;
      free = λ e. (let none : None ≡ Some holding = sym e in absurd (cc));
      here = λ h e. subst (λ (x : Holding). AreHeld x (with_slot before.slot (list slots) slots before.slot)) (some_is holding h e)
          (subst (AreHeld holding) (sym (slot_here slots before.slot before.slot (list slots) refl)) both.1);
    }) (turns told slots keeps both.0) (changes.pages told)

-- nothing has to be put
pub puts_none : {D T : Type 0} (tells : Type 0) (view : D → View) (act : Act) (before : Before) (next : StoreState) (held : Option Holding) (value : T) (log : Log D)
    → ((was : StoreState) (slots : ℕ → List Anode) (holding : Holding) → IsMade was act before next → AnodesAre view slots log → HoldsAnodes was slots → held ≡ Some holding → AreHeld holding (slots before.slot))
    → PutsSlot {T = T} tells view act before next held (Ok value) log log
puts_none tells view act before next held value log meets told was made slots keeps holds = record {
  after = slots;
  keeps = keeps;
  pages = λ p low off. refl;
  others = λ s apart. refl;
  free = λ e. refl;
  here = λ h e. meets was slots h made keeps holds e;
}

-- all anodes that differ
pub renews_blocks : (act : Act) → renews act ≡ true → act_blocks act ≡ 144
renews_blocks (Do host number call) e = refl
renews_blocks (Left id) e = refl
renews_blocks (Settle id) e = refl
renews_blocks (Part from ship id moves at part) e = refl
renews_blocks _ e = absurd (false≢true e)

not_boot : (act : Act) → renews act ≡ true → act ≡ Boot → ⊥
not_boot act on is = false≢true (ap renews (sym is) ∙ on)

module _ {D : Type 0} (view : D → View) (act : Act) (before : Before) (next : StoreState) (log : Log D) (low : before.slot < 16) (holding : Holding) (held : held_at next.slots before.slot ≡ Some holding) where
  -- what was seen tells what is held
  told_held : renews act ≡ true → (old : StoreState) → IsMade old act before next → AllTold (anodes_before (held_at old.slots before.slot)) holding.fileset.anodes
  told_held on old made =
      let kept = made.kept in
      let touched = act_touches old act made.is_act (not_boot act on) in
      let told = subst (λ (n : ℕ). HeldTold (held_at old.slots n) (held_at (act_done old act).state.slots n)) (sym kept.slot) (touched.told on) in
      let there : held_at (act_done old act).state.slots before.slot ≡ Some holding = (λ i. held_at (sym made.made i).slots before.slot) ∙ held in
      subst (HeldTold (held_at old.slots before.slot)) there told

  pub at_slot : renews act ≡ true → (old : StoreState) (slots : ℕ → List Anode) → IsMade old act before next → AnodesAre view slots log → HoldsAnodes old slots → AreAt before.slot before.anodes holding.fileset.anodes slots
  at_slot on old slots made keeps holds at lt =
      let kept = made.kept in
      let same : before.anodes ≡ map seen_anode (anodes_before (held_at old.slots before.slot)) = kept.anodes on ∙ (λ i. map seen_anode (anodes_before (held_at old.slots (sym kept.slot i)))) in
      subst (λ (list : List SeenAnode). IsAt before.slot at list holding.fileset.anodes slots) (sym same)
      (at_before (held_at old.slots before.slot) (slots before.slot) holding.fileset.anodes at lt (told_held on old made) (holds before.slot low))

  pub renewed_held : renews act ≡ true → length holding.fileset.anodes ≤ 64 → (old : StoreState) (slots : ℕ → List Anode) → IsMade old act before next → AnodesAre view slots log → HoldsAnodes old slots
      → AreAt before.slot before.anodes holding.fileset.anodes slots × AreHeld holding (replaced holding.fileset.anodes (slots before.slot))
  renewed_held on few old slots made keeps holds = (at_slot on old slots made keeps holds, held_replaced holding (slots before.slot) (keeps.each before.slot low).count few)

-- a give-back
module _ {D : Type 0} (view : D → View) (act : Act) (before : Before) (next : StoreState) (log : Log D) (low : before.slot < 16) (holding : Holding) (held : held_at next.slots before.slot ≡ Some holding)
    (host : HostId) (number : ℕ) (fid : Fid) (pieces : List Piece) (given : Option ℕ) (is : act ≡ Give host number fid pieces given) where
  was_held : (old : StoreState) → IsMade old act before next → (was : Holding) × (held_at old.slots before.slot ≡ Some was) × (holding.fileset ≡ (held_given fid pieces given was).fileset)
  was_held old made =
      let as_given : IsMade old (Give host number fid pieces given) before next = subst (λ (a : Act). IsMade old a before next) is made in
      given_is old host number fid pieces given before.slot holding as_given.kept.slot as_given.fresh ((λ i. held_at (sym as_given.made i).slots before.slot) ∙ held)

  gives_is : (old : StoreState) → IsMade old act before next → (was : Holding) → held_at old.slots before.slot ≡ Some was → (is_writable was.stay && is_file_at was.fileset fid) ≡ before.gives
  gives_is old made was there =
      let as_given : IsMade old (Give host number fid pieces given) before next = subst (λ (a : Act). IsMade old a before next) is made in
      let at : held_at old.slots (slot_so (is_of fid.fileset) old.slots) ≡ Some was = (λ i. held_at old.slots (sym as_given.kept.slot i)) ∙ there in
      sym (as_given.kept.given ∙ (λ i. option_map_or (λ h. is_writable h.stay && is_file_at h.fileset fid) (at i) false))

  held_was : (old : StoreState) (slots : ℕ → List Anode) → HoldsAnodes old slots → (was : Holding) → held_at old.slots before.slot ≡ Some was → AreHeld was (slots before.slot)
  held_was old slots holds was there = subst (λ (o : Option Holding). SlotAnodes o (slots before.slot)) there (holds before.slot low)

  pub given_none : before.gives ≡ false → (old : StoreState) (slots : ℕ → List Anode) (h : Holding) → IsMade old act before next → AnodesAre view slots log → HoldsAnodes old slots → ◌≡◌ {A = Option Holding} (Some holding) (Some h) → AreHeld h (slots before.slot)
  given_none off old slots h made keeps holds e =
      let was = was_held old made in
      let same : holding.fileset.anodes ≡ was.0.fileset.anodes = ap (λ f. f.anodes) (was.2 ∙ not_given fid pieces given was.0 (gives_is old made was.0 was.1 ∙ off)) in
      let are = held_was old slots holds was.0 was.1 in
      subst (λ (x : Holding). AreHeld x (slots before.slot)) (some_is holding h e) (same_held was.0 same are)
    where
      same_held : (was : Holding) → holding.fileset.anodes ≡ was.fileset.anodes → AreHeld was (slots before.slot) → AreHeld holding (slots before.slot)
      same_held was same are = record {
        front = (λ i. take (length (same i)) (slots before.slot)) ∙ are.front ∙ sym same;
        rest = λ anode above few. are.rest anode (let f = ap length same in omega (arith, f, above)) few;
      }

  file_is : before.gives ≡ true → (old : StoreState) (made : IsMade old act before next) → IsFileHeld fid.anode (was_held old made).0
  file_is on old made = let was = was_held old made in file_held fid was.0 (gives_is old made was.0 was.1 ∙ on)

  pub given_file : before.gives ≡ true → (old : StoreState) (slots : ℕ → List Anode) → IsMade old act before next → AnodesAre view slots log → HoldsAnodes old slots → IsFile before.slot fid.anode slots
  given_file on old slots made keeps holds =
      let was = was_held old made in
      file_there fid.anode before.slot was.0 slots (held_was old slots holds was.0 was.1) (file_is on old made)

  pub given_held : before.gives ≡ true → (old : StoreState) (slots : ℕ → List Anode) → IsMade old act before next → AnodesAre view slots log → HoldsAnodes old slots
      → IsFile before.slot fid.anode slots × AreHeld holding (changed_at (slots before.slot) (fid.anode - 1) (anode_changed (content_given pieces given)))
  given_held on old slots made keeps holds =
      let was = was_held old made in
      let anodes : holding.fileset.anodes ≡ changed_at was.0.fileset.anodes (fid.anode - 1) (anode_changed (content_given pieces given)) =
      ap (λ f. f.anodes) was.2 ∙ is_given fid pieces given was.0 (gives_is old made was.0 was.1 ∙ on) in (
        given_file on old slots made keeps holds,
        held_changed_to fid.anode (anode_changed (content_given pieces given)) was.0 holding (slots before.slot) anodes (file_is on old made) (held_was old slots holds was.0 was.1),
      )

-- a clone
module _ {D : Type 0} (view : D → View) (act : Act) (before : Before) (next : StoreState) (log : Log D) (low : before.slot < 16) (from : before.source < 16) (holding : Holding) (held : held_at next.slots before.slot ≡ Some holding)
    (host : HostId) (number : ℕ) (server : ServerId) (source new : List ℕ) (is : act ≡ Do host number (CloneFileset server source new)) where
  pub cloned_held : (old : StoreState) (slots : ℕ → List Anode) → IsMade old act before next → AnodesAre view slots log → HoldsAnodes old slots → AllVacant before.slot slots × AreHeld holding (slots before.source)
  cloned_held old slots made keeps holds =
      let as_clone : IsMade old (Do host number (CloneFileset server source new)) before next = subst (λ (a : Act). IsMade old a before next) is made in
      let cloned = clone_is old before.slot source new holding as_clone.kept.slot host number server ((λ i. held_at (sym as_clone.made i).slots before.slot) ∙ held) in
      let there : held_at old.slots before.source ≡ Some cloned.from = (λ i. held_at old.slots (as_clone.kept.source i)) ∙ cloned.there in
      let are = subst (λ (o : Option Holding). SlotAnodes o (slots before.source)) there (holds before.source from) in
      let unused = subst (λ (o : Option Holding). SlotAnodes o (slots before.slot)) cloned.free (holds before.slot low) in
      (λ anode some few. (λ i. is_none (anode_at (unused i) anode).object) ∙ vacant (anode - 1) 64, held_cloned cloned.from holding (slots before.source) (keeps.each before.source from) are cloned.anodes)
    where
      vacant : (at n : ℕ) → is_none (unwrap_or (slice_get (replicate n unused_anode) at) unused_anode).object ≡ true
      vacant at zero = refl
      vacant zero (suc n) = refl
      vacant (suc at) (suc n) = vacant at n
