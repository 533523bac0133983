use Rattle.std.proofs.Common.{◌≡◌, ◌==◌, true, false, ◌∙◌, if◌then◌else◌, sym, arith}
use Rattle.std.proofs.lemmas.Bool.Decides.{nat_tests}
use Rattle.store_acts.specs.Moving.{arrival_slot}
use Rattle.store_state.specs.Sought.{awaits}
use Rattle.store_state.specs.State.{slot_so}
use Rattle.disk_acts.specs.Touched.{slot_touched}
use Rattle.disk_acts.proofs.touched.slot_touched.Goals as goal

pub returns-then-at-eq0 : goal.returns-then-at-eq0
returns-then-at-eq0 c =
    let is = c.in-Part.is in
    let none = c.if-at-eq0.true in
    let e : (c.in-Part.at == 0) ≡ true = grind (arith, nat_tests, none) in
    let state = c.args.state.now in
    c.arrival_slot.ensures
    ∙ sym ((λ i. slot_touched state (is i)) ∙ (λ i. if e i then arrival_slot state c.in-Part.fileset else slot_so (awaits c.in-Part.fileset c.in-Part.from c.in-Part.ship c.in-Part.moves c.in-Part.at) state.slots))

pub returns-else-at-eq0 : goal.returns-else-at-eq0
returns-else-at-eq0 c =
    let is = c.in-Part.is in
    let some = c.if-at-eq0.false in
    let e : (c.in-Part.at == 0) ≡ false = grind (arith, nat_tests, some) in
    let state = c.args.state.now in
    c.slot_of-in-Part.ensures
    ∙ sym ((λ i. slot_touched state (is i)) ∙ (λ i. if e i then arrival_slot state c.in-Part.fileset else slot_so (awaits c.in-Part.fileset c.in-Part.from c.in-Part.ship c.in-Part.moves c.in-Part.at) state.slots))
