-- The steps of an act in a row.
use Rattle.std.proofs.Common.{◌≡◌, ◌<◌, ℕ, List, length, Some, sym, ◌∙◌, subst, arith}
use Rattle.std.specs.Prelude.{Result, Ok, Err, OnOk}
use Rattle.std.proofs.lemmas.Result.{on_ok_weaker}
use Rattle.base_types.specs.View.{View}
use Rattle.tree_objects.specs.declared.content.Anode.{Anode}
use Rattle.store_acts.specs.Acts.{booted, act_done}
use Rattle.store_acts.specs.declared.act.Act.{Act}
use Rattle.store_acts.specs.declared.act.Act.TheVariants.{Boot}
use Rattle.store_state.specs.State.{held_at}
use Rattle.store_state.specs.declared.state.Holding.{Holding}
use Rattle.store_state.specs.declared.state.StoreState.{StoreState}
use Rattle.store_state.proofs.Slots.{held_inside}
use Rattle.disk_log.specs.Contents.{contents_of, page_in}
use Rattle.disk_log.specs.declared.kept.Tx.{Tx}
use Rattle.disk_log.specs.declared.log.Log.{Log}
use Rattle.disk_anode.specs.declared.fault.NodeFault.{NodeFault}
use Rattle.disk_acts.specs.Acts.{act_pages}
use Rattle.disk_acts.specs.Records.{HasTables}
use Rattle.disk_acts.specs.Steps.{MayStep, Steps, SaysNext, ServerIsSaid, HeldIsSaid, SlotIsPut, PutsSlot, AllSaid, beside_anodes}
use Rattle.disk_acts.specs.Touched.{IsMade, other_touched, renews}
use Rattle.disk_acts.specs.declared.touched.Before.{Before}
use Rattle.disk_acts.proofs.Stepping.{beside_among, step_less, step_after, steps_then, steps_failed}
use Rattle.disk_acts.proofs.Touching.{Touches, act_touches}
use Rattle.disk_acts.proofs.Making.{holds_anodes, made_now}
use Rattle.disk_acts.proofs.Booting.{boot_now}

pub act_less : {D : Type 0} (tells : Type 0) (view : D → View) (slot blocks : ℕ) (log : Log D) (tx : Tx) → MayStep tells view (act_pages slot) blocks log tx → MayStep tells view beside_anodes 0 log tx
act_less tells view slot blocks log tx may = step_less tells view beside_anodes (act_pages slot) 0 blocks log tx (λ p is. beside_among slot p is) (omega arith) may

pub act_may : {D T : Type 0} (tells : Type 0) (view : D → View) (slot blocks : ℕ) (value : T) (old mid : Log D) (tx changed : Tx) → MayStep tells view (act_pages slot) blocks old tx
    → Steps tells view beside_anodes 0 (Ok value) old mid tx changed → MayStep tells view (act_pages slot) blocks mid changed
act_may tells view slot blocks value old mid tx changed may step = step_after tells view beside_anodes (act_pages slot) 0 blocks blocks value old mid tx changed (λ p is. beside_among slot p is) (omega arith) may step

pub act_then : {D T U : Type 0} (tells : Type 0) (view : D → View) (slot blocks : ℕ) (value : T) (result : Result U NodeFault) (old mid new : Log D) (tx tx_2 tx_3 : Tx)
    → Steps tells view beside_anodes 0 (Ok value) old mid tx tx_2 → Steps tells view (act_pages slot) blocks result mid new tx_2 tx_3 → Steps tells view (act_pages slot) blocks result old new tx tx_3
act_then tells view slot blocks value result old mid new tx tx_2 tx_3 one two =
    steps_then tells view beside_anodes (act_pages slot) (act_pages slot) 0 blocks blocks value result old mid new tx tx_2 tx_3 (λ p is. beside_among slot p is) (λ p is. is) (omega arith) one two

pub act_failed : {D T U : Type 0} (tells : Type 0) (view : D → View) (slot blocks : ℕ) (fault : NodeFault) (old new : Log D) (tx changed : Tx)
    → Steps {T = T} tells view beside_anodes 0 (Err fault) old new tx changed → Steps {T = U} tells view (act_pages slot) blocks (Err fault) old new tx changed
act_failed tells view slot blocks fault old new tx changed failed = steps_failed tells view beside_anodes (act_pages slot) 0 blocks fault old new tx changed (λ p is. beside_among slot p is) failed

-- the record that they leave
pub made_next : {D T : Type 0} (tells : Type 0) (view : D → View) (act : Act) (before : Before) (old next : StoreState) (result : Result T NodeFault) (l0 l1 l2 l3 l4 : Log D) → (act ≡ Boot → ⊥) → IsMade old act before next
    → (tells → ServerIsSaid view next l0 l1) → (tells → HeldIsSaid view before.other (held_at next.slots before.other) l1 l2) → (tells → HeldIsSaid view before.slot (held_at next.slots before.slot) l2 l3)
    → PutsSlot tells view act before next (held_at next.slots before.slot) result l3 l4 → SaysNext tells view old next result l0 l4
made_next tells view act before old next result l0 l1 l2 l3 l4 apart made server beside here puts told has =
    let slots : ℕ → List Anode = has.0 in
    let first = (server told).anodes slots (record { held = has.1.held; each = has.1.each }) in
    let second = (beside told).anodes slots first in
    let third = (here told).anodes slots second in
    let kept = made.kept in
    let touched = act_touches old act made.is_act apart in
    let by_other = subst (λ (n : ℕ). Touches (renews act) before.slot n old.slots (act_done old act).state.slots) (sym kept.other) (subst (λ (n : ℕ). Touches (renews act) n (other_touched old act) old.slots (act_done old act).state.slots) (sym kept.slot) touched) in
    let touches = subst (λ (s : StoreState). Touches (renews act) before.slot before.other old.slots s.slots) (sym made.made) by_other in
    on_ok_weaker result
    (λ (put : SlotIsPut view before.slot (held_at next.slots before.slot) slots l3 l4). made_now view (renews act) before.slot before.other old next slots l0 l1 l2 l3 l4 touches has.1.says (server told) (beside told) (here told) put)
    (puts told old made slots third (holds_anodes old slots (λ p. page_in (contents_of view l0) p) has.1.says))

-- and that of a boot
pub boot_next : {D T : Type 0} (tells : Type 0) (view : D → View) (old next : StoreState) (result : Result T NodeFault) (l0 l1 l2 : Log D) → next ≡ booted old
    → (tells → ServerIsSaid view next l0 l1) → (tells → OnOk result (AllSaid view 16 next l1 l2)) → SaysNext tells view old next result l0 l2
boot_next tells view old next result l0 l1 l2 made server all told has =
    on_ok_weaker result (λ (said : AllSaid view 16 next l1 l2). boot_now view old next l0 l1 l2 made has (server told) said) (all told)

pub made_boot : (old : StoreState) (act : Act) (before : Before) (next : StoreState) → act ≡ Boot → IsMade old act before next → next ≡ booted old
unfolding act_done
made_boot old act before next is made = made.made ∙ (λ i. (act_done old (is i)).state)

-- a slot in which something is held
pub low_slot : (state : StoreState) (slot : ℕ) (holding : Holding) → HasTables state → held_at state.slots slot ≡ Some holding → slot < 16
low_slot state slot holding tables held =
    let inside = held_inside state.slots slot holding held in
    let table : length state.slots ≡ 16 = tables.limits.table in
    omega (arith, inside, table)
