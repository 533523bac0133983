use Rattle.std.proofs.Common.{◌∙◌, ◌==◌, List, ap, sym}
use Rattle.std.specs.List.{find}
use Rattle.store_memory.specs.Reading.{slots_from}
use Rattle.store_memory.specs.declared.told.Slot.{Slot}
use Rattle.store_state.specs.declared.state.StoreState.{StoreState}
use Rattle.store_test_rows.proofs.Leaving.{told_leaving}
use Rattle.store_test_rows.proofs.tried.Tried.may_send.Goals as goal

pub returns-clause-leaving : goal.returns-clause-leaving
returns-clause-leaving g c = λ yes tells.
    let (slot, found, leaves, low) = c.is_leaving.ensures yes in
    let told = c.as_slice.ensures ∙ c.in_ok-slots.ensures.slots tells
    ∙ ap (λ (s : StoreState). slots_from 0 s.slots) (sym (c.in_ok-slots.ensures.asked.state tells)) in
    told_leaving (g.S.Store.view c.slots.new.self).state c.args.fileset c.args.at slot
    (ap (λ (slots : List Slot). find (λ (slot : Slot). slot.fileset.0 == c.args.fileset.0) slots) (sym told) ∙ found)
    leaves low
