use Rattle.std.proofs.lemmas.Result.{IfOk-weaker, on_ok_weaker}
use Rattle.server_decides.specs.Finishing.{IsFinished, IsTakenAndFinished}
use Rattle.server_decides.specs.Running.{making}
use Rattle.server_decides.specs.Saying.{SaysOn}
use Rattle.server_decides.proofs.Onward.{heard_says}
use Rattle.server_decides.proofs.Heard.{heard_brought, heard_served}
use Rattle.server_decides.proofs.Saying.{says_then}
use Rattle.server_decides.proofs.finishing.take_and_finish.Goals as goal

pub finish-requires-clause-served : goal.finish-requires-clause-served
finish-requires-clause-served g c =
    heard_served c.args.tables.now c.take_message.new.tables c.args.draft.now c.take_message.new.draft
    c.args.message.now
    (g.S.Store.view c.args.keeper.now.store) (g.S.Store.view c.take_message.new.keeper.store) c.requires.served
    c.requires.given c.in_ok-take_message.ensures.heard c.in_ok-take_message.ensures.counted
    c.in_ok-take_message.ensures.tried.same

pub returns-clause-taken : goal.returns-clause-taken
returns-clause-taken g c tells =
    let x = c.args.tables.now in
    let st = (g.S.Store.view c.args.keeper.now.store).state in
    let t = c.take_message.new.tables in
    let a = c.take_message.new.draft in
    let mid = (g.S.Store.view c.take_message.new.keeper.store).state in
    let y = c.finish.new.tables in
    let e = c.finish.new.draft in
    let next = (g.S.Store.view c.finish.new.keeper.store).state in
    IfOk-weaker c.finish.result (IsFinished t a mid y e next)
    (IsTakenAndFinished x c.args.draft.now c.args.message.now st y e next) (λ rested f. record {
      laws = c.laws.ensures;
      between = making t a mid;
      taken = λ user known. c.in_ok-take_message.ensures.taken tells user known;
      stored = c.in_ok-take_message.ensures.state tells;
      served = heard_served x t c.args.draft.now a c.args.message.now (g.S.Store.view c.args.keeper.now.store)
          (g.S.Store.view c.take_message.new.keeper.store) c.requires.served c.requires.given
          c.in_ok-take_message.ensures.heard c.in_ok-take_message.ensures.counted
          c.in_ok-take_message.ensures.tried.same;
      finished = f;
    }) (c.finish.ensures.finished tells)

pub returns-clause-says : goal.returns-clause-says
returns-clause-says g c sound =
    let x = c.args.tables.now in
    let t = c.take_message.new.tables in
    let d = c.args.draft.now in
    let a = c.take_message.new.draft in
    let heard : SaysOn x d t a = heard_says x t d a c.args.message.now sound c.requires.given
    c.in_ok-take_message.ensures.heard in
    on_ok_weaker c.finish.result
    (λ more. says_then x t c.finish.new.tables d a c.finish.new.draft heard more)
    (c.finish.ensures.says heard.sound)

pub returns-clause-went : goal.returns-clause-went
returns-clause-went g c tells came its all = λ from h.
    c.finish.ensures.went tells came
    (heard_brought c.args.tables.now c.take_message.new.tables c.args.draft.now c.take_message.new.draft
    c.args.message.now came its c.in_ok-take_message.ensures.heard all) from
    (c.in_ok-take_message.ensures.went tells came its from h)

pub returns-clause-brought : goal.returns-clause-brought
returns-clause-brought g c tells came its all =
    c.finish.ensures.brought tells came
    (heard_brought c.args.tables.now c.take_message.new.tables c.args.draft.now c.take_message.new.draft
    c.args.message.now came its c.in_ok-take_message.ensures.heard all)
