use Rattle.std.proofs.Common.{sym, subst, ◌∙◌, ap}
use Rattle.std.specs.List.{find}
use Rattle.store_memory.specs.Reading.{slots_from}
use Rattle.store_state.specs.declared.state.StoreState.{StoreState}
use Rattle.service_moves.specs.Ships.{is_slot_of, IsShipIn}
use Rattle.service_moves.proofs.Carried.{carries_of, sound_ship}
use Rattle.service_moves.proofs.ships.ship_of.Goals as goal

pub returns-in_ok-ship_in-in-Ok-clause-ship : goal.returns-in_ok-ship_in-in-Ok-clause-ship
returns-in_ok-ship_in-in-Ok-clause-ship g c tells =
    let state = (g.S.Store.view c.slots_by.new.store).state in
    let from = c.args.from in
    let id = c.args.fileset in
    let ship = c.in_ok-ship_in-in-Ok.field-0 in
    let told = c.in-Ok.ensures.slots tells ∙ ap (λ (s : StoreState). slots_from 0 s.slots) (sym (c.in-Ok.ensures.state tells)) in
    let e = c.slot_of.ensures ∙ ap (λ xs. find (is_slot_of id) xs) (c.as_slice.ensures ∙ told) in
    carries_of from id state.slots ship (subst (λ o. IsShipIn from o ship) e c.in_ok-ship_in-in-Ok.ensures)

pub returns-in_ok-ship_in-in-Ok-clause-sound : goal.returns-in_ok-ship_in-in-Ok-clause-sound
returns-in_ok-ship_in-in-Ok-clause-sound g c =
    let id = c.args.fileset in
    let ship = c.in_ok-ship_in-in-Ok.field-0 in
    let e = c.slot_of.ensures ∙ ap (λ xs. find (is_slot_of id) xs) c.as_slice.ensures in
    sound_ship (g.S.Store.view c.args.store.now).state.roster c.args.from c.in-Ok.slots (is_slot_of id) ship c.in-Ok.ensures.sound
    (subst (λ o. IsShipIn c.args.from o ship) e c.in_ok-ship_in-in-Ok.ensures)
