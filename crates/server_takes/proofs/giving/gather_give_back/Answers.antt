use Rattle.std.proofs.Common.{◌≡◌, ◌∙◌, ap, true, false}
use Rattle.std.specs.Prelude.{None}
use Rattle.message_types.specs.declared.giving.AppliedGive.{AppliedGive}
use Rattle.message_types.specs.declared.message.Body.TheVariants.{Gone}
use Rattle.store_acts.specs.Acts.{state_after}
use Rattle.store_memory.specs.Reading.{status_told}
use Rattle.server_takes.proofs.Parts.{draft_elsewhere, draft_here, given_elsewhere, given_here, state_elsewhere}
use Rattle.server_takes.proofs.Parts.{state_here}
use Rattle.server_takes.specs.Drafts.{saying, word}
use Rattle.server_takes.proofs.giving.gather_give_back.Goals as goal

pub returns-then-not-is_here-clause-tables : goal.returns-then-not-is_here-clause-tables
returns-then-not-is_here-clause-tables g c = given_elsewhere c.args.tables.now c.args.host c.args.give.now (cc)

pub returns-then-not-is_here-clause-draft : goal.returns-then-not-is_here-clause-draft
returns-then-not-is_here-clause-draft g c tells =
    draft_elsewhere c.args.tables.now c.args.draft.now c.args.host c.args.give.now
    (status_told (state_after (g.S.Store.view c.args.keeper.now.store).state c.args.waiting.now) c.args.give.now.fid)
    (cc)

pub returns-then-not-is_here-clause-state : goal.returns-then-not-is_here-clause-state
returns-then-not-is_here-clause-state g c tells =
    state_elsewhere c.args.tables.now c.args.host c.args.give.now
    (state_after (g.S.Store.view c.args.keeper.now.store).state c.args.waiting.now) (cc)

pub returns-clause-tables : goal.returns-clause-tables
returns-clause-tables g c = c.in_ok-note_given.ensures.tables ∙ given_here c.args.tables.now c.args.host c.args.give.now
    (cc)

pub returns-clause-draft : goal.returns-clause-draft
returns-clause-draft g c tells =
    let x = c.args.tables.now in
    let d = c.args.draft.now in
    let host = c.args.host in
    let give = c.args.give.now in
    let mid = c.gather_first.new.draft in
    c.in_ok-say.ensures ∙ ap (λ (n : AppliedGive). saying mid (word x host (Gone n))) c.number_of.ensures
    ∙ draft_here x d host give (status_told (state_after (g.S.Store.view c.args.keeper.now.store).state
    c.args.waiting.now) give.fid) mid (cc)
    (c.in_ok-gather_first.ensures.draft tells)

pub returns-clause-state : goal.returns-clause-state
returns-clause-state g c tells =
    c.in_ok-gather_first.ensures.state tells ∙ state_here c.args.tables.now c.args.host c.args.give.now
    (state_after (g.S.Store.view c.args.keeper.now.store).state c.args.waiting.now) (cc)

pub returns-then-not-is_here-clause-heard : goal.returns-then-not-is_here-clause-heard
returns-then-not-is_here-clause-heard g c =
    (None, draft_elsewhere c.args.tables.now c.args.draft.now c.args.host c.args.give.now None (cc))

pub returns-clause-heard : goal.returns-clause-heard
returns-clause-heard g c =
    let x = c.args.tables.now in
    let mid = c.gather_first.new.draft in
    let h = c.in_ok-gather_first.ensures.heard in (
      h.0,
      c.in_ok-say.ensures ∙ ap (λ (n : AppliedGive). saying mid (word x c.args.host (Gone n))) c.number_of.ensures
          ∙ draft_here x c.args.draft.now c.args.host c.args.give.now h.0 mid (cc) h.1,
    )
