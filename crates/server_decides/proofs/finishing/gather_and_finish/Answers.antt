use Rattle.std.proofs.Common.{◌≡◌, ◌∙◌, List, [], inl, inr, refl, sym, subst}
use Rattle.std.specs.Prelude.{IfOk}
use Rattle.std.proofs.lemmas.Result.{IfOk-weaker, on_ok_weaker}
use Rattle.message_types.specs.Soundness.{Each}
use Rattle.store_acts.specs.Acts.{state_after}
use Rattle.store_acts.specs.declared.act.Act.{Act}
use Rattle.store_state.specs.declared.state.StoreState.{StoreState}
use Rattle.server_says.proofs.Bodies.{give_known, on_ok_is}
use Rattle.server_says.proofs.Brought.{more_done}
use Rattle.server_says.specs.Acts.{IsLimited}
use Rattle.server_says.specs.Keepers.{IsDoneFor}
use Rattle.server_decides.specs.Finishing.{IsFinished, IsTakenAndFinished}
use Rattle.server_decides.specs.Running.{making}
use Rattle.server_decides.specs.Saying.{SaysOn}
use Rattle.server_decides.specs.Serving.{IsServed}
use Rattle.server_decides.proofs.Brings.{finished_brought}
use Rattle.server_decides.proofs.Gathered.{gives_more, none_wait, served_after}
use Rattle.server_decides.proofs.Heard.{heard_brought, heard_served}
use Rattle.server_decides.proofs.Onward.{heard_says}
use Rattle.server_decides.proofs.Saying.{says_then}
use Rattle.server_decides.proofs.Steps.{served_asked}
use Rattle.server_decides.proofs.finishing.gather_and_finish.Goals as goal

pub store_all-requires-clause-gives : goal.store_all-requires-clause-gives
store_all-requires-clause-gives g c =
    gives_more (g.S.Store.view c.args.keeper.now.store) (g.S.Store.view c.gather_message.new.keeper.store)
    c.args.message.now.host c.args.give.now c.args.waiting.now c.gather_message.new.waiting c.requires.gives
    c.requires.room c.in_ok-gather_message.ensures.waits
    (give_known c.args.tables.now c.args.message.now (g.S.Store.view c.args.keeper.now.store).state c.args.give.now
    c.requires.body c.requires.given c.requires.served.store)
    c.in_ok-gather_message.ensures.asked.tried.same

pub finish-requires-clause-served : goal.finish-requires-clause-served
finish-requires-clause-served g c =
    served_asked c.gather_message.new.tables (g.S.Store.view c.gather_message.new.keeper.store)
    (g.S.Store.view c.store_all.new.keeper.store)
    (heard_served c.args.tables.now c.gather_message.new.tables c.args.draft.now c.gather_message.new.draft
    c.args.message.now (g.S.Store.view c.args.keeper.now.store) (g.S.Store.view c.gather_message.new.keeper.store)
    c.requires.served c.requires.given c.in_ok-gather_message.ensures.heard c.in_ok-gather_message.ensures.counted
    c.in_ok-gather_message.ensures.asked.tried.same)
    c.in_ok-store_all.ensures.tried.same

pub returns-clause-taken : goal.returns-clause-taken
returns-clause-taken g c tells limited =
    let x = c.args.tables.now in
    let d = c.args.draft.now in
    let m = c.args.message.now in
    let st = (g.S.Store.view c.args.keeper.now.store).state in
    let t = c.gather_message.new.tables in
    let a = c.gather_message.new.draft in
    let mid = (g.S.Store.view c.gather_message.new.keeper.store).state in
    let news = c.gather_message.new.waiting in
    let late = (g.S.Store.view c.store_all.new.keeper.store).state in
    let y = c.finish.new.tables in
    let e = c.finish.new.draft in
    let next = (g.S.Store.view c.finish.new.keeper.store).state in
    let still : mid ≡ st = c.in_ok-gather_message.ensures.asked.state tells in
    let here : IsLimited mid = subst IsLimited (sym still) limited in
    let stored : late ≡ state_after mid news = c.in_ok-store_all.ensures.state tells here in
    let served : IsServed t mid = heard_served x t d a m (g.S.Store.view c.args.keeper.now.store)
    (g.S.Store.view c.gather_message.new.keeper.store) c.requires.served c.requires.given
    c.in_ok-gather_message.ensures.heard c.in_ok-gather_message.ensures.counted
    c.in_ok-gather_message.ensures.asked.tried.same in
    let gives = gives_more (g.S.Store.view c.args.keeper.now.store)
    (g.S.Store.view c.gather_message.new.keeper.store) m.host c.args.give.now c.args.waiting.now news c.requires.gives
    c.requires.room c.in_ok-gather_message.ensures.waits
    (give_known x m st c.args.give.now c.requires.body c.requires.given c.requires.served.store)
    c.in_ok-gather_message.ensures.asked.tried.same in
    subst (λ (w : List Act). IfOk c.finish.result
    (IsTakenAndFinished x d m (state_after st c.args.waiting.now) y e (state_after next w)))
    (sym c.in_ok-store_all.ensures.none)
    (IfOk-weaker c.finish.result (IsFinished t a late y e next)
    (IsTakenAndFinished x d m (state_after st c.args.waiting.now) y e next) (λ rested f. record {
      laws = c.laws.ensures;
      between = making t a (state_after mid news);
      taken = λ user known. c.in_ok-gather_message.ensures.taken tells user;
      stored = λ again. c.in_ok-gather_message.ensures.state tells;
      served = served_after t mid news here gives served;
      finished = subst (λ (s : StoreState). IsFinished t a s y e next rested) stored f;
    }) (c.finish.ensures.finished tells))

pub returns-then-is_idle-clause-taken : goal.returns-then-is_idle-clause-taken
returns-then-is_idle-clause-taken g c tells limited =
    let x = c.args.tables.now in
    let d = c.args.draft.now in
    let m = c.args.message.now in
    let st = (g.S.Store.view c.args.keeper.now.store).state in
    let t = c.gather_message.new.tables in
    let a = c.gather_message.new.draft in
    let mid = (g.S.Store.view c.gather_message.new.keeper.store).state in
    let news = c.gather_message.new.waiting in
    let still : mid ≡ st = c.in_ok-gather_message.ensures.asked.state tells in
    let here : IsLimited mid = subst IsLimited (sym still) limited in
    let served : IsServed t mid = heard_served x t d a m (g.S.Store.view c.args.keeper.now.store)
    (g.S.Store.view c.gather_message.new.keeper.store) c.requires.served c.requires.given
    c.in_ok-gather_message.ensures.heard c.in_ok-gather_message.ensures.counted
    c.in_ok-gather_message.ensures.asked.tried.same in
    let gives = gives_more (g.S.Store.view c.args.keeper.now.store)
    (g.S.Store.view c.gather_message.new.keeper.store) m.host c.args.give.now c.args.waiting.now news c.requires.gives
    c.requires.room c.in_ok-gather_message.ensures.waits
    (give_known x m st c.args.give.now c.requires.body c.requires.given c.requires.served.store)
    c.in_ok-gather_message.ensures.asked.tried.same in
    let after = served_after t mid news here gives served in record {
      laws = c.laws.ensures;
      between = making t a (state_after mid news);
      taken = λ user known. c.in_ok-gather_message.ensures.taken tells user;
      stored = λ again. c.in_ok-gather_message.ensures.state tells;
      served = after;
      finished = c.in_ok-finish_idle.ensures.finished (state_after mid news) after;
    }

pub returns-clause-gives : goal.returns-clause-gives
returns-clause-gives g c =
    on_ok_is c.finish.result _
    (none_wait (g.S.Store.view c.finish.new.keeper.store).state c.store_all.new.waiting
    c.in_ok-store_all.ensures.none)

pub returns-then-is_idle-clause-gives : goal.returns-then-is_idle-clause-gives
returns-then-is_idle-clause-gives g c =
    gives_more (g.S.Store.view c.args.keeper.now.store) (g.S.Store.view c.gather_message.new.keeper.store)
    c.args.message.now.host c.args.give.now c.args.waiting.now c.gather_message.new.waiting c.requires.gives
    c.requires.room c.in_ok-gather_message.ensures.waits
    (give_known c.args.tables.now c.args.message.now (g.S.Store.view c.args.keeper.now.store).state c.args.give.now
    c.requires.body c.requires.given c.requires.served.store)
    c.in_ok-gather_message.ensures.asked.tried.same

pub returns-then-is_idle-clause-served : goal.returns-then-is_idle-clause-served
returns-then-is_idle-clause-served g c =
    c.in_ok-finish_idle.ensures.served (g.S.Store.view c.gather_message.new.keeper.store).state
    (heard_served c.args.tables.now c.gather_message.new.tables c.args.draft.now c.gather_message.new.draft
    c.args.message.now (g.S.Store.view c.args.keeper.now.store) (g.S.Store.view c.gather_message.new.keeper.store)
    c.requires.served c.requires.given c.in_ok-gather_message.ensures.heard c.in_ok-gather_message.ensures.counted
    c.in_ok-gather_message.ensures.asked.tried.same)

pub returns-clause-says : goal.returns-clause-says
returns-clause-says g c sound =
    let x = c.args.tables.now in
    let t = c.gather_message.new.tables in
    let d = c.args.draft.now in
    let a = c.gather_message.new.draft in
    let heard : SaysOn x d t a = heard_says x t d a c.args.message.now sound c.requires.given
    c.in_ok-gather_message.ensures.heard in
    on_ok_weaker c.finish.result
    (λ more. says_then x t c.finish.new.tables d a c.finish.new.draft heard more)
    (c.finish.ensures.says heard.sound)

pub returns-then-is_idle-clause-says : goal.returns-then-is_idle-clause-says
returns-then-is_idle-clause-says g c sound =
    let x = c.args.tables.now in
    let t = c.gather_message.new.tables in
    let d = c.args.draft.now in
    let a = c.gather_message.new.draft in
    let heard : SaysOn x d t a = heard_says x t d a c.args.message.now sound c.requires.given
    c.in_ok-gather_message.ensures.heard in
    says_then x t c.finish_idle.new.tables d a c.finish_idle.new.draft heard
    (c.in_ok-finish_idle.ensures.says heard.sound)

pub returns-clause-stays : goal.returns-clause-stays
returns-clause-stays g c = on_ok_is c.finish.result _ (inl c.in_ok-store_all.ensures.none)

pub returns-then-is_idle-clause-stays : goal.returns-then-is_idle-clause-stays
returns-then-is_idle-clause-stays g c = inr (λ tells. c.in_ok-gather_message.ensures.asked.state tells)

pub returns-clause-went : goal.returns-clause-went
returns-clause-went g c tells came its all waits = λ from h.
    let more = more_done came c.args.message.now.host c.args.give.now c.args.waiting.now c.gather_message.new.waiting
    c.in_ok-gather_message.ensures.waits (c.args.message.now, its, refl, c.requires.body) waits in
    c.finish.ensures.went tells came
    (heard_brought c.args.tables.now c.gather_message.new.tables c.args.draft.now c.gather_message.new.draft
    c.args.message.now came its c.in_ok-gather_message.ensures.heard all) from
    (c.in_ok-store_all.ensures.went tells came more from (c.in_ok-gather_message.ensures.went tells came from h))

pub returns-in_err-store_all-clause-went : goal.returns-in_err-store_all-clause-went
returns-in_err-store_all-clause-went g c tells came its all waits = λ from h.
    let more = more_done came c.args.message.now.host c.args.give.now c.args.waiting.now c.gather_message.new.waiting
    c.in_ok-gather_message.ensures.waits (c.args.message.now, its, refl, c.requires.body) waits in
    c.in_err-store_all.ensures.went tells came more from (c.in_ok-gather_message.ensures.went tells came from h)

pub returns-clause-waits : goal.returns-clause-waits
returns-clause-waits g c came its waits =
    on_ok_is c.finish.result _
    (subst (λ (l : List Act). Each (IsDoneFor came) l) (sym c.in_ok-store_all.ensures.none) tt)

pub returns-then-is_idle-clause-waits : goal.returns-then-is_idle-clause-waits
returns-then-is_idle-clause-waits g c came its waits =
    more_done came c.args.message.now.host c.args.give.now c.args.waiting.now c.gather_message.new.waiting
    c.in_ok-gather_message.ensures.waits (c.args.message.now, its, refl, c.requires.body) waits

pub returns-clause-brought : goal.returns-clause-brought
returns-clause-brought g c tells came its all =
    c.finish.ensures.brought tells came
    (heard_brought c.args.tables.now c.gather_message.new.tables c.args.draft.now c.gather_message.new.draft
    c.args.message.now came its c.in_ok-gather_message.ensures.heard all)

pub returns-then-is_idle-clause-brought : goal.returns-then-is_idle-clause-brought
returns-then-is_idle-clause-brought g c tells came its all =
    let x = c.args.tables.now in
    let t = c.gather_message.new.tables in
    let a = c.gather_message.new.draft in
    let d = c.args.draft.now in
    let m = c.args.message.now in
    let mid = (g.S.Store.view c.gather_message.new.keeper.store).state in
    let served : IsServed t mid = heard_served x t d a m (g.S.Store.view c.args.keeper.now.store)
    (g.S.Store.view c.gather_message.new.keeper.store) c.requires.served c.requires.given
    c.in_ok-gather_message.ensures.heard c.in_ok-gather_message.ensures.counted
    c.in_ok-gather_message.ensures.asked.tried.same in
    finished_brought came t c.finish_idle.new.tables a c.finish_idle.new.draft mid mid _
    (c.in_ok-finish_idle.ensures.finished mid served)
    (heard_brought x t d a m came its c.in_ok-gather_message.ensures.heard all)
