use Rattle.std.proofs.Common.{[], Option, subst}
use Rattle.std.specs.Prelude.{IfSome}
use Rattle.hub_board.specs.declared.given.Given.{Given}
use Rattle.hub_laws.specs.Keeping.{lapse_in, message_in}
use Rattle.server_node.specs.Laws.{fails_later, stays_on, stays_so}
use Rattle.server_node.specs.Standing.{AreIn, StandsSo, WasGiven}
use Rattle.server_node.proofs.server.ServerNode.take_given.Goals as goal

pub returns-in_default-clause-stays : goal.returns-in_default-clause-stays
returns-in_default-clause-stays g c = stays_so g.S.Store.tells g.S.Store.view c.args.self.now

pub returns-in-Ok-clause-works : goal.returns-in-Ok-clause-works
returns-in-Ok-clause-works g c = λ part past so given.
    let tells = g.S.Store.tells in let view = g.S.Store.view in
    c.settle.ensures.works part past [] 0 (c.in-Ok.ensures.works part past
    (subst (λ (x : Option Given). StandsSo tells view part c.args.self.now past c.args.steps.now.steps (message_in x)
    (lapse_in x)) c.in-Some.is so)
    (subst (λ (x : Option Given). IfSome x (WasGiven past)) c.in-Some.is given))

pub returns-in-Ok-clause-stays : goal.returns-in-Ok-clause-stays
returns-in-Ok-clause-stays g c =
    stays_on g.S.Store.tells g.S.Store.view c.args.self.now c.take.new.self c.settle.new.self c.take.ensures.stays
    c.settle.ensures.stays

pub returns-in-Ok-clause-failed : goal.returns-in-Ok-clause-failed
returns-in-Ok-clause-failed g c = λ e.
    fails_later g.S.Store.tells g.S.Store.view c.args.self.now c.take.new.self c.settle.new.self c.take.ensures.stays
    (c.settle.ensures.failed e)

pub returns-in-Ok-clause-went : goal.returns-in-Ok-clause-went
returns-in-Ok-clause-went g c tells came all its = λ from h.
    let this = subst (λ (x : Option Given). AreIn came (message_in x)) c.in-Some.is its in
    c.settle.ensures.went tells came (c.in-Ok.ensures.all tells came all this) from
    (c.take.ensures.went tells came all this from h)

pub returns-in-Ok-clause-all : goal.returns-in-Ok-clause-all
returns-in-Ok-clause-all g c tells came all its =
    let this = subst (λ (x : Option Given). AreIn came (message_in x)) c.in-Some.is its in
    c.settle.ensures.all tells came (c.in-Ok.ensures.all tells came all this)
