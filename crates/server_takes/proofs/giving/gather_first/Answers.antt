use Rattle.std.proofs.Common.{◌≡◌, ◌∙◌, ap, true, false}
use Rattle.std.specs.Prelude.{None}
use Rattle.store_acts.specs.Acts.{state_after}
use Rattle.store_memory.specs.Reading.{status_told}
use Rattle.server_takes.proofs.Parts.{applied_again, applied_first, state_again, state_first}
use Rattle.server_takes.specs.Taking.{ending}
use Rattle.server_takes.specs.declared.draft.Draft.{Draft}
use Rattle.server_takes.proofs.giving.gather_first.Goals as goal

pub returns-then-not-is_first-clause-draft : goal.returns-then-not-is_first-clause-draft
returns-then-not-is_first-clause-draft g c tells =
    applied_again c.args.tables.now c.args.draft.now c.args.host c.args.give.now
    (status_told (state_after (g.S.Store.view c.args.keeper.now.store).state c.args.waiting.now) c.args.give.now.fid)
    (cc)

pub returns-then-not-is_first-clause-state : goal.returns-then-not-is_first-clause-state
returns-then-not-is_first-clause-state g c tells =
    state_again c.args.tables.now c.args.host c.args.give.now
    (state_after (g.S.Store.view c.args.keeper.now.store).state c.args.waiting.now) (cc)

pub returns-clause-draft : goal.returns-clause-draft
returns-clause-draft g c tells =
    let host = c.args.host in
    let give = c.args.give.now in
    c.in_ok-end_call.ensures ∙ ap (λ (d : Draft). ending d host give) (c.in_ok-gather.ensures.draft tells)
    ∙ applied_first c.args.tables.now c.args.draft.now host give
    (status_told (state_after (g.S.Store.view c.args.keeper.now.store).state c.args.waiting.now) give.fid) (cc)

pub returns-clause-state : goal.returns-clause-state
returns-clause-state g c tells =
    c.in_ok-gather.ensures.state tells ∙ state_first c.args.tables.now c.args.host c.args.give.now
    (state_after (g.S.Store.view c.args.keeper.now.store).state c.args.waiting.now) (cc)

pub returns-then-not-is_first-clause-heard : goal.returns-then-not-is_first-clause-heard
returns-then-not-is_first-clause-heard g c =
    (None, applied_again c.args.tables.now c.args.draft.now c.args.host c.args.give.now None (cc))

pub returns-clause-heard : goal.returns-clause-heard
returns-clause-heard g c =
    let host = c.args.host in
    let give = c.args.give.now in
    let h = c.in_ok-gather.ensures.heard in (
      h.0,
      c.in_ok-end_call.ensures ∙ ap (λ (d : Draft). ending d host give) h.1
          ∙ applied_first c.args.tables.now c.args.draft.now host give h.0 (cc),
    )
