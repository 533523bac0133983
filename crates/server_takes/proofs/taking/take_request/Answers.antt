use Rattle.std.proofs.Common.{[], ◌≡◌, ◌∙◌, false, refl, sym, ap, subst}
use Rattle.std.specs.Prelude.{None, OnOk}
use Rattle.std.proofs.lemmas.Result.{on_ok_weaker}
use Rattle.message_types.specs.declared.message.Body.{Body}
use Rattle.server_takes.specs.Messages.{IsStored, needs_by, request_state, told_by}
use Rattle.server_takes.specs.Taking.{IsRequestTaken}
use Rattle.server_takes.proofs.Bodies.{alone_read, asks_none, call_known, give_known, host_known, on_both, on_ok_is}
use Rattle.server_takes.proofs.Bodies.{request_stays}
use Rattle.server_takes.proofs.taking.take_request.Goals as goal

pub returns-in-Change-clause-taken : goal.returns-in-Change-clause-taken
returns-in-Change-clause-taken g c tells user known =
    let x = c.args.tables.now in
    let d = c.args.draft.now in
    let m = c.args.message.now in
    let y = c.take_change.new.tables in
    let e = c.take_change.new.draft in
    let state = (g.S.Store.view c.args.keeper.now.store).state in
    on_ok_weaker c.take_change.result
    (λ p. subst (λ (b : Body). IsRequestTaken x d m.host (needs_by state m user b) (told_by state b) y e b)
    (sym c.in-Change.is) p)
    (c.take_change.ensures.made tells user known)

pub returns-in-Change-clause-heard : goal.returns-in-Change-clause-heard
returns-in-Change-clause-heard g c =
    let x = c.args.tables.now in
    let d = c.args.draft.now in
    let m = c.args.message.now in
    let y = c.take_change.new.tables in
    let e = c.take_change.new.draft in
    on_ok_weaker c.take_change.result (λ h. record {
      needs = h.needs;
      told = None;
      taken = subst (λ (b : Body). IsRequestTaken x d m.host h.needs None y e b) (sym c.in-Change.is) h.taken;
    }) c.take_change.ensures.heard

pub returns-in-GiveBack-clause-heard : goal.returns-in-GiveBack-clause-heard
returns-in-GiveBack-clause-heard g c =
    let x = c.args.tables.now in
    let d = c.args.draft.now in
    let m = c.args.message.now in
    let y = c.take_give_back.new.tables in
    let e = c.take_give_back.new.draft in
    on_both c.take_give_back.result _ _ _ (λ p h. record {
      needs = [];
      told = h.0;
      taken = subst (λ (b : Body). IsRequestTaken x d m.host [] h.0 y e b) (sym c.in-GiveBack.is)
          (record { tables = p; draft = h.1 });
    }) c.take_give_back.ensures.tables c.take_give_back.ensures.heard

pub returns-in_ok-take_alone-in_default-clause-heard : goal.returns-in_ok-take_alone-in_default-clause-heard
returns-in_ok-take_alone-in_default-clause-heard g c = record {
  needs = [];
  told = None;
  taken = c.in_ok-take_alone-in_default.ensures.taken
      (asks_none c.args.message.now.body c.in_default.not-Change c.in_default.not-GiveBack);
}

pub returns-in-GiveBack-clause-taken : goal.returns-in-GiveBack-clause-taken
returns-in-GiveBack-clause-taken g c tells user known =
    let x = c.args.tables.now in
    let d = c.args.draft.now in
    let m = c.args.message.now in
    let y = c.take_give_back.new.tables in
    let e = c.take_give_back.new.draft in
    let state = (g.S.Store.view c.args.keeper.now.store).state in
    on_both c.take_give_back.result _ _ _
    (λ p q. subst (λ (b : Body). IsRequestTaken x d m.host (needs_by state m user b) (told_by state b) y e b)
    (sym c.in-GiveBack.is)
    (record { tables = p; draft = q })) c.take_give_back.ensures.tables (c.take_give_back.ensures.draft tells)

pub returns-in_ok-take_alone-in_default-clause-taken : goal.returns-in_ok-take_alone-in_default-clause-taken
returns-in_ok-take_alone-in_default-clause-taken g c tells user known =
    let m = c.args.message.now in
    let state = (g.S.Store.view c.args.keeper.now.store).state in
    let quiet = asks_none m.body c.in_default.not-Change c.in_default.not-GiveBack in
    alone_read c.args.tables.now c.args.draft.now m user state c.take_alone.new.tables c.take_alone.new.draft m.body
    quiet
    (c.in_ok-take_alone-in_default.ensures.taken quiet)

pub returns-in-Change-clause-state : goal.returns-in-Change-clause-state
returns-in-Change-clause-state g c tells stored =
    let x = c.args.tables.now in
    let m = c.args.message.now in
    let state = (g.S.Store.view c.args.keeper.now.store).state in
    on_ok_is c.take_change.result _
    (c.take_change.ensures.asked.state tells ∙ ap (request_state x m state) (sym c.in-Change.is))

pub returns-in-GiveBack-clause-state : goal.returns-in-GiveBack-clause-state
returns-in-GiveBack-clause-state g c tells stored =
    let x = c.args.tables.now in
    let m = c.args.message.now in
    let state = (g.S.Store.view c.args.keeper.now.store).state in
    let may = subst (λ (b : Body). IsStored m state b) c.in-GiveBack.is stored in
    on_ok_weaker c.take_give_back.result (λ e. e ∙ ap (request_state x m state) (sym c.in-GiveBack.is))
    (c.take_give_back.ensures.state tells may)

pub returns-in_ok-take_alone-in_default-clause-state : goal.returns-in_ok-take_alone-in_default-clause-state
returns-in_ok-take_alone-in_default-clause-state g c tells stored =
    request_stays c.args.tables.now c.args.message.now
    (g.S.Store.view c.args.keeper.now.store).state c.args.message.now.body c.in_default.not-GiveBack

pub take_change-requires-clause-host : goal.take_change-requires-clause-host
take_change-requires-clause-host g c =
    host_known c.args.tables.now c.args.message.now
    (g.S.Store.view c.args.keeper.now.store).state c.requires.given c.requires.of

pub take_change-requires-clause-call : goal.take_change-requires-clause-call
take_change-requires-clause-call g c =
    call_known c.args.tables.now c.args.message.now
    (g.S.Store.view c.args.keeper.now.store).state c.in-Change.change c.in-Change.is c.requires.given c.requires.of

pub take_give_back-requires-clause-act : goal.take_give_back-requires-clause-act
take_give_back-requires-clause-act g c =
    give_known c.args.tables.now c.args.message.now
    (g.S.Store.view c.args.keeper.now.store).state c.in-GiveBack.give c.in-GiveBack.is c.requires.given
    c.requires.of
