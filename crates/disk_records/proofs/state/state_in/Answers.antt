use Rattle.std.proofs.Common.{◌≡◌, ◌-◌, ℕ, List, ◌∙◌, ap, sym, subst}
use Rattle.store_acts.specs.Sound.{KeepsLimits}
use Rattle.disk_pages.specs.Puts.{SaysFacts, SaysNumbers}
use Rattle.disk_log.specs.State.{State}
use Rattle.disk_records.specs.Said.{facts_said}
use Rattle.disk_records.proofs.Looked.{page_same, record_still}
use Rattle.disk_records.proofs.LoadStated.{facts_format, state_read, state_within}
use Rattle.disk_records.proofs.state.state_in.Goals as goal

pub returns-in-Ok-clause-state : goal.returns-in-Ok-clause-state
returns-in-Ok-clause-state g c = λ told state keeps own.
    (let view = g.D.Disk.view in
    let first = c.in_ok-page.ensures.reads in
    let second = c.in_ok-page-2.ensures.reads in
    let read = c.in_ok-page.ensures.bytes told in
    let read_numbers = c.in_ok-page-2.ensures.bytes told ∙ page_same g.D.Disk.tells view c.args.log.now c.page.new.self first.state first.quiet 1 in
    let still = record_still g.D.Disk.tells view c.page.new.self c.page-2.new.self second.state second.quiet state (record_still g.D.Disk.tells view c.args.log.now c.page.new.self first.state first.quiet state keeps) in
    let facts : SaysFacts (facts_said state) c.page.new.out = subst (λ (l : List ℕ). SaysFacts (facts_said state) l) (sym read) keeps.says.facts in
    let numbers : SaysNumbers state.records c.page-2.new.out = subst (λ (l : List ℕ). SaysNumbers state.records l) (sym read_numbers) keeps.says.numbers in
    let slots = c.in_ok-slots.ensures.slots told (facts_format state c.page.new.out facts) state still own.server_is in
    let blocks : c.blocks-count.result - 1024 ≡ state.capacity =
    ap (λ (n : ℕ). n - 1024) (c.blocks-count.ensures ∙ ap (λ (s : State). s.superblock.blocks) (c.in_ok-slots.ensures.looks.state ∙ second.state ∙ first.state)) ∙ own.capacity in
    c.in-Ok.ensures
    ∙ state_read state keeps.storable c.args.server own.server_is c.args.roster.now own.roster_is c.blocks-count.result blocks c.page.new.out c.page-2.new.out facts numbers c.in_ok-slots.slots slots)

pub returns-in-Ok-clause-limits : goal.returns-in-Ok-clause-limits
returns-in-Ok-clause-limits g c =
    subst KeepsLimits (sym c.in-Ok.ensures)
    (state_within c.args.server c.args.roster.now c.blocks-count.result c.page.new.out c.page-2.new.out c.in_ok-slots.slots c.in_ok-slots.ensures.size (sym c.is_numbers_page.ensures ∙ c.if-not-is_numbers_page.false)
    (c.in_ok-slots.ensures.limits c.args.roster.now c.len.ensures))
