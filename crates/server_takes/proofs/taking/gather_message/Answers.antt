use Rattle.std.proofs.Common.{[], ◌≡◌, ◌∙◌, sym, ap, subst}
use Rattle.std.proofs.lemmas.Result.{on_ok_weaker}
use Rattle.message_types.specs.declared.message.Body.{Body}
use Rattle.store_acts.specs.Acts.{state_after}
use Rattle.server_takes.specs.Messages.{needs_by, request_state, told_by}
use Rattle.server_takes.specs.Taking.{IsRequestTaken}
use Rattle.server_takes.proofs.Bodies.{give_known, given_request, on_both, request_given}
use Rattle.server_takes.proofs.taking.gather_message.Goals as goal

pub gather_give_back-requires-clause-act : goal.gather_give_back-requires-clause-act
gather_give_back-requires-clause-act g c =
    give_known c.args.tables.now c.args.message.now
    (g.S.Store.view c.args.keeper.now.store).state c.args.give.now c.requires.body c.requires.given c.requires.of

pub returns-clause-taken : goal.returns-clause-taken
returns-clause-taken g c tells user =
    let x = c.args.tables.now in
    let d = c.args.draft.now in
    let m = c.args.message.now in
    let y = c.gather_give_back.new.tables in
    let e = c.gather_give_back.new.draft in
    let state = state_after (g.S.Store.view c.args.keeper.now.store).state c.args.waiting.now in
    on_both c.gather_give_back.result _ _ _
    (λ p q. given_request x d m (needs_by state m user m.body) (told_by state m.body) y e c.args.give.now
    c.requires.body c.requires.counts
    (subst (λ (b : Body). IsRequestTaken x d m.host (needs_by state m user b) (told_by state b) y e b)
    (sym c.requires.body) (record { tables = p; draft = q })))
    c.gather_give_back.ensures.tables (c.gather_give_back.ensures.draft tells)

pub returns-clause-heard : goal.returns-clause-heard
returns-clause-heard g c =
    let x = c.args.tables.now in
    let d = c.args.draft.now in
    let m = c.args.message.now in
    let y = c.gather_give_back.new.tables in
    let e = c.gather_give_back.new.draft in
    on_both c.gather_give_back.result _ _ _ (λ p h. record {
      needs = [];
      told = h.0;
      taken = given_request x d m [] h.0 y e c.args.give.now c.requires.body c.requires.counts
          (subst (λ (b : Body). IsRequestTaken x d m.host [] h.0 y e b) (sym c.requires.body)
          (record { tables = p; draft = h.1 }));
    }) c.gather_give_back.ensures.tables c.gather_give_back.ensures.heard

pub returns-clause-state : goal.returns-clause-state
returns-clause-state g c tells =
    let x = c.args.tables.now in
    let m = c.args.message.now in
    let state = state_after (g.S.Store.view c.args.keeper.now.store).state c.args.waiting.now in
    on_ok_weaker c.gather_give_back.result
    (λ e. e ∙ ap (request_state x m state) (sym c.requires.body)
    ∙ request_given x m state c.args.give.now c.requires.body c.requires.counts)
    (c.gather_give_back.ensures.state tells)
