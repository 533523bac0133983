use Rattle.std.proofs.Common.{◌≡◌, List, inl, sym, subst}
use Rattle.std.specs.Prelude.{IfOk}
use Rattle.message_types.specs.Soundness.{Each}
use Rattle.store_acts.specs.Acts.{state_after}
use Rattle.store_acts.specs.declared.act.Act.{Act}
use Rattle.store_state.specs.declared.state.StoreState.{StoreState}
use Rattle.server_says.specs.Keepers.{IsDoneFor}
use Rattle.server_says.proofs.Bodies.{on_ok_is}
use Rattle.server_decides.proofs.Gathered.{none_wait}
use Rattle.server_decides.proofs.Steps.{served_asked}
use Rattle.server_decides.specs.Finishing.{IsTakenAndFinished}
use Rattle.server_decides.proofs.finishing.take_or_gather.Goals as goal

pub take_and_finish-requires-clause-served : goal.take_and_finish-requires-clause-served
take_and_finish-requires-clause-served g c =
    served_asked c.args.tables.now (g.S.Store.view c.args.keeper.now.store)
    (g.S.Store.view c.store_all.new.keeper.store)
    c.requires.served c.in_ok-store_all.ensures.tried.same

pub returns-clause-taken : goal.returns-clause-taken
returns-clause-taken g c tells limited =
    let x = c.args.tables.now in
    let d = c.args.draft.now in
    let m = c.args.message.now in
    let st = (g.S.Store.view c.args.keeper.now.store).state in
    let y = c.take_and_finish.new.tables in
    let e = c.take_and_finish.new.draft in
    let next = (g.S.Store.view c.take_and_finish.new.keeper.store).state in
    subst (λ (w : List Act). IfOk c.take_and_finish.result
    (IsTakenAndFinished x d m (state_after st c.args.waiting.now) y e (state_after next w)))
    (sym c.in_ok-store_all.ensures.none)
    (subst (λ (s : StoreState). IfOk c.take_and_finish.result (IsTakenAndFinished x d m s y e next))
    (c.in_ok-store_all.ensures.state tells limited) (c.take_and_finish.ensures.taken tells))

pub returns-clause-gives : goal.returns-clause-gives
returns-clause-gives g c =
    on_ok_is c.take_and_finish.result _
    (none_wait (g.S.Store.view c.take_and_finish.new.keeper.store).state c.store_all.new.waiting
    c.in_ok-store_all.ensures.none)

pub returns-clause-stays : goal.returns-clause-stays
returns-clause-stays g c = on_ok_is c.take_and_finish.result _ (inl c.in_ok-store_all.ensures.none)

pub returns-clause-waits : goal.returns-clause-waits
returns-clause-waits g c came its all =
    on_ok_is c.take_and_finish.result _
    (subst (λ (l : List Act). Each (IsDoneFor came) l) (sym c.in_ok-store_all.ensures.none) tt)
