use Rattle.std.proofs.Common.{sym, subst, ◌∙◌, ap}
use Rattle.std.specs.List.{find}
use Rattle.std.specs.Option.{option_map}
use Rattle.store_memory.specs.Reading.{slots_from}
use Rattle.store_memory.specs.declared.told.Slot.{Slot}
use Rattle.store_state.specs.State.{is_leaving}
use Rattle.store_state.specs.declared.state.StoreState.{StoreState}
use Rattle.service_moves.specs.Ships.{is_slot_of, IsShipIn}
use Rattle.service_moves.proofs.Carried.{carries_of, next_some, sound_ship}
use Rattle.service_moves.proofs.ships.next_ship.Goals as goal

pub returns-in-Some-clause-ship : goal.returns-in-Some-clause-ship
returns-in-Some-clause-ship g c tells =
    let state = (g.S.Store.view c.slots_by.new.store).state in
    let from = c.args.from in
    let id = c.in-Some.fileset in
    let ship = c.in_ok-ship_in-in-Some.field-0 in
    let told = c.in-Ok.ensures.slots tells ∙ ap (λ (s : StoreState). slots_from 0 s.slots) (sym (c.in-Ok.ensures.state tells)) in
    let e = c.slot_of.ensures ∙ ap (λ xs. find (is_slot_of id) xs) (c.as_slice-in-Some.ensures ∙ told) in
    let first = sym (ap (λ xs. option_map (λ (slot : Slot). slot.fileset) (find (λ slot. is_leaving slot.stay) xs)) (c.as_slice.ensures ∙ told)) ∙ sym c.leaving_in.ensures ∙ c.in-Some.is in
    next_some from state (slots_from 0 state.slots) (λ slot. is_leaving slot.stay) ship id first
    (carries_of from id state.slots ship (subst (λ o. IsShipIn from o ship) e c.in_ok-ship_in-in-Some.ensures))

pub returns-in-Some-clause-sound : goal.returns-in-Some-clause-sound
returns-in-Some-clause-sound g c =
    let id = c.in-Some.fileset in
    let ship = c.in_ok-ship_in-in-Some.field-0 in
    let e = c.slot_of.ensures ∙ ap (λ xs. find (is_slot_of id) xs) c.as_slice-in-Some.ensures in
    sound_ship (g.S.Store.view c.args.store.now).state.roster c.args.from c.in-Ok.slots (is_slot_of id) ship c.in-Ok.ensures.sound
    (subst (λ o. IsShipIn c.args.from o ship) e c.in_ok-ship_in-in-Some.ensures)
