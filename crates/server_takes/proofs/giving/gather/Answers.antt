use Rattle.std.proofs.Common.{◌≡◌, ◌∙◌, ◌++◌, [], ◌∷◌, ap, inl, inr, true, false, refl, sym}
use Rattle.store_acts.specs.Acts.{state_after}
use Rattle.store_acts.specs.declared.act.Act.{Act}
use Rattle.store_state.specs.declared.state.StoreState.{StoreState}
use Rattle.server_takes.proofs.Gathered.{may_still, stored_more}
use Rattle.server_takes.proofs.Parts.{keeping_none, keeping_some, stored_none}
use Rattle.server_takes.specs.Taking.{keeping}
use Rattle.server_takes.proofs.giving.gather.Goals as goal

pub note_stored-requires : goal.note_stored-requires
note_stored-requires g c = c.requires.act.1

pub returns-then-not-branch-clause-draft : goal.returns-then-not-branch-clause-draft
returns-then-not-branch-clause-draft g c tells =
    let start = (g.S.Store.view c.args.keeper.now.store).state in
    keeping_none c.args.draft.now c.args.host c.args.give.now (state_after start c.args.waiting.now) _
    (may_still start c.args.waiting.now c.args.give.now _ c.requires.gives (c.in_ok-may_store.ensures.told tells))
    c.if-not-branch.true

pub returns-then-not-branch-clause-state : goal.returns-then-not-branch-clause-state
returns-then-not-branch-clause-state g c tells =
    let start = (g.S.Store.view c.args.keeper.now.store).state in
    ap (λ (s : StoreState). state_after s c.args.waiting.now) (c.in_ok-may_store.ensures.asked.state tells)
    ∙ stored_none c.args.host c.args.give.now (state_after start c.args.waiting.now) _
    (may_still start c.args.waiting.now c.args.give.now _ c.requires.gives (c.in_ok-may_store.ensures.told tells))
    c.if-not-branch.true

pub returns-clause-draft : goal.returns-clause-draft
returns-clause-draft g c tells =
    let start = (g.S.Store.view c.args.keeper.now.store).state in
    c.in_ok-note_stored.ensures ∙ keeping_some c.args.draft.now c.args.host c.args.give.now
    (state_after start c.args.waiting.now) _
    (may_still start c.args.waiting.now c.args.give.now _ c.requires.gives (c.in_ok-may_store.ensures.told tells))
    c.if-not-branch.false

pub returns-clause-state : goal.returns-clause-state
returns-clause-state g c tells =
    let start = (g.S.Store.view c.args.keeper.now.store).state in
    stored_more c.args.host c.args.give.now start (g.S.Store.view c.may_store.new.keeper.store).state
    c.args.waiting.now c.push.new.self c.in_ok-act.act _
    (c.in_ok-may_store.ensures.asked.state tells) c.in_ok-push.ensures.ok c.in_ok-act.ensures
    (may_still start c.args.waiting.now c.args.give.now _ c.requires.gives (c.in_ok-may_store.ensures.told tells))
    c.if-not-branch.false

pub returns-then-not-branch-clause-waits : goal.returns-then-not-branch-clause-waits
returns-then-not-branch-clause-waits g c = inl refl

pub returns-clause-waits : goal.returns-clause-waits
returns-clause-waits g c =
    inr (c.in_ok-push.ensures.ok ∙ ap (λ (act : Act). c.args.waiting.now ++ act ∷ []) c.in_ok-act.ensures)

pub returns-then-not-branch-clause-heard : goal.returns-then-not-branch-clause-heard
returns-then-not-branch-clause-heard g c =
    let h = c.in_ok-may_store.ensures.heard in
    (h.0, ap (keeping c.args.draft.now c.args.host c.args.give.now) (sym c.if-not-branch.true ∙ h.1))

pub returns-clause-heard : goal.returns-clause-heard
returns-clause-heard g c =
    let h = c.in_ok-may_store.ensures.heard in (
      h.0,
      c.in_ok-note_stored.ensures
          ∙ ap (keeping c.args.draft.now c.args.host c.args.give.now) (sym c.if-not-branch.false ∙ h.1),
    )
