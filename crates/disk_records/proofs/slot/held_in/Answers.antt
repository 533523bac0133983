use Rattle.std.proofs.Common.{◌≡◌, ◌*◌, ◌+◌, ℕ, List, take, ◌∙◌, ap, sym, subst}
use Rattle.std.specs.Prelude.{Some}
use Rattle.base_types.specs.Image.{byte_at}
use Rattle.store_acts.specs.Sound.{IsHolding}
use Rattle.store_state.specs.State.{held_at}
use Rattle.disk_log.specs.Contents.{contents_of, page_in}
use Rattle.disk_records.specs.Stored.{SaysSlot}
use Rattle.disk_records.proofs.Limits.{holding_within}
use Rattle.disk_records.proofs.Looked.{page_same, slots_still}
use Rattle.disk_records.proofs.LoadSlots.{nothing_read, something_read}
use Rattle.disk_records.proofs.slot.held_in.Goals as goal

pub returns-then-header-eq0-clause-held : goal.returns-then-header-eq0-clause-held
returns-then-header-eq0-clause-held g c = λ told two state keeps own.
    (let view = g.D.Disk.view in
    let s = c.args.slot in
    let header = page_in (contents_of view c.args.log.now) (2 + 66 * s) in
    let numbers = page_in (contents_of view c.args.log.now) (3 + 66 * s) in
    let read : c.page.new.out ≡ header = c.in_ok-page.ensures.bytes told in
    nothing_read state keeps.storable s c.args.home own c.args.server.now header numbers (keeps.slots s) two (keeps.says.slot s c.requires.slot) (sym (ap (λ (l : List ℕ). byte_at l 0) read) ∙ c.if-header-eq0.true))

pub returns-in-Ok-clause-held : goal.returns-in-Ok-clause-held
returns-in-Ok-clause-held g c = λ told two state keeps own.
    (let view = g.D.Disk.view in
    let s = c.args.slot in
    let header = page_in (contents_of view c.args.log.now) (2 + 66 * s) in
    let numbers = page_in (contents_of view c.args.log.now) (3 + 66 * s) in
    let read : c.page.new.out ≡ header = c.in_ok-page.ensures.bytes told in
    let first = c.in_ok-page.ensures.reads in
    let second = c.in_ok-page-2.ensures.reads in
    let read_numbers : c.page-2.new.out ≡ numbers = c.in_ok-page-2.ensures.bytes told ∙ page_same g.D.Disk.tells view c.args.log.now c.page.new.self first.state first.quiet (3 + 66 * s) in
    let still = slots_still g.D.Disk.tells view c.page.new.self c.page-2.new.self second.state second.quiet keeps.slots (slots_still g.D.Disk.tells view c.args.log.now c.page.new.self first.state first.quiet keeps.slots keeps.keeps) in
    let anodes = c.in_ok-anodes.ensures.anodes told keeps.slots still in
    let says : SaysSlot (held_at state.slots s) (keeps.slots s) c.page.new.out c.page-2.new.out =
    subst (λ (h : List ℕ). SaysSlot (held_at state.slots s) (keeps.slots s) h c.page-2.new.out) (sym read) (subst (λ (n : List ℕ). SaysSlot (held_at state.slots s) (keeps.slots s) header n) (sym read_numbers) (keeps.says.slot s c.requires.slot)) in
    ap Some c.in-Ok.ensures
    ∙ something_read state keeps.storable s c.args.home own c.args.server.now c.page.new.out c.page-2.new.out (keeps.slots s) two says c.if-header-eq0.false c.in_ok-anodes.anodes
    (anodes ∙ (λ i. take (c.count_held.ensures.count i) (keeps.slots s))))

pub returns-in-Ok-clause-limits : goal.returns-in-Ok-clause-limits
returns-in-Ok-clause-limits g c = λ roster few.
    subst (IsHolding roster) (sym c.in-Ok.ensures)
    (holding_within roster c.args.servers c.args.home c.args.server.now c.page.new.out c.page-2.new.out c.in_ok-anodes.anodes few (sym c.are_limits.ensures ∙ c.if-not-are_limits.false))
