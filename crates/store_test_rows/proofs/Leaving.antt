-- A fileset that is told as leaving is leaving.
use Rattle.std.proofs.Common.{
  ◌≡◌,
  ◌≤◌,
  ℕ,
  suc,
  ◌+◌,
  ◌==◌,
  Bool,
  true,
  false,
  not,
  cond,
  List,
  [],
  ◌∷◌,
  Option,
  Some,
  None,
  refl,
  sym,
  ap,
  ◌∙◌,
  arith,
}
use Rattle.std.specs.List.{find, position_or_len}
use Rattle.base_types.specs.declared.ids.FilesetId.{FilesetId}
use Rattle.store_state.specs.declared.state.Holding.{Holding}
use Rattle.store_memory.specs.declared.told.Slot.{Slot}
use Rattle.store_state.specs.declared.state.StoreState.{StoreState}
use Rattle.store_memory.specs.Reading.{slot_told, slots_from}
use Rattle.store_memory.specs.Sound.{IsLeavingOf}
use Rattle.store_state.proofs.Slots.{slot_first}
use Rattle.store_state.specs.State.{is_leaving, is_used_so, is_of, held_at, held_so}

-- the slot of a fileset is told first among those of its id
told_first : (id : FilesetId) (slots : List (Option Holding)) (at : ℕ) (slot : Slot) →
    find (λ slot. slot.fileset.0 == id.0) (slots_from at slots) ≡ Some slot →
    (holding : Holding) × (held_at slots (position_or_len (is_used_so (is_of id)) slots) ≡ Some holding)
    × (slot.stay ≡ holding.stay) × (slot.objects ≡ holding.fileset.objects)
told_first id [] at slot e = absurd (cc)
told_first id (None ∷ slots) at slot e =
    let (holding, h, s, o) = told_first id slots (at + 1) slot e in
    let n : 1 + position_or_len (is_used_so (is_of id)) slots
    ≡ suc (position_or_len (is_used_so (is_of id)) slots) = omega arith in
    (holding, rw n h, s, o)
told_first id (Some held ∷ slots) at slot e =
    by (held.fileset.id.0 == id.0) refl (λ k. told_first id slots (at + 1) slot k) e
  where
    by : (b : Bool) → (held.fileset.id.0 == id.0) ≡ b →
        (find (λ slot. slot.fileset.0 == id.0) (slots_from (at + 1) slots) ≡ Some slot →
        (holding : Holding) × (held_at slots (position_or_len (is_used_so (is_of id)) slots) ≡ Some holding)
        × (slot.stay ≡ holding.stay) × (slot.objects ≡ holding.fileset.objects)) →
        cond b (Some (slot_told at held)) (find (λ slot. slot.fileset.0 == id.0) (slots_from (at + 1) slots))
        ≡ Some slot →
        (holding : Holding) × (held_at (Some held ∷ slots)
        (cond (not b) (1 + position_or_len (is_used_so (is_of id)) slots) 0) ≡ Some holding)
        × (slot.stay ≡ holding.stay) × (slot.objects ≡ holding.fileset.objects)
    by true k rest e =
        let same : slot_told at held ≡ slot = cc in
        (held, refl, ap (λ s. s.stay) (sym same), ap (λ s. s.objects) (sym same))
    by false k rest e =
        let (holding, h, s, o) = rest e in
        let n : 1 + position_or_len (is_used_so (is_of id)) slots
        ≡ suc (position_or_len (is_used_so (is_of id)) slots) = omega arith in
        (holding, rw n h, s, o)

pub told_leaving : (state : StoreState) (id : FilesetId) (at : ℕ) (slot : Slot) →
    find (λ slot. slot.fileset.0 == id.0) (slots_from 0 state.slots) ≡ Some slot →
    is_leaving slot.stay ≡ true → at ≤ slot.objects → IsLeavingOf state id at
told_leaving state id at slot e l m =
    let (holding, h, s, o) = told_first id state.slots 0 slot e in
    let held : held_so (is_of id) state.slots
    ≡ Some holding = ap (held_at state.slots) (slot_first (is_of id) state.slots) ∙ h in
    (holding, held, ap is_leaving (sym s) ∙ l, (let e = sym o in rw e m))
