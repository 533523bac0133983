use Rattle.server_node.specs.Laws.{fails_later, stays_on}
use Rattle.server_node.proofs.server.ServerNode.take_rest.Goals as goal

pub returns-in-Ok-clause-works : goal.returns-in-Ok-clause-works
returns-in-Ok-clause-works g c = λ part past so given.
    c.go_on.ensures.works part past (c.in-Ok.ensures.works part past so given)

pub returns-in-Ok-clause-stays : goal.returns-in-Ok-clause-stays
returns-in-Ok-clause-stays g c =
    stays_on g.S.Store.tells g.S.Store.view c.args.self.now c.take_given.new.self c.go_on.new.self
    c.take_given.ensures.stays c.go_on.ensures.stays

pub returns-in-Ok-clause-failed : goal.returns-in-Ok-clause-failed
returns-in-Ok-clause-failed g c = λ e.
    fails_later g.S.Store.tells g.S.Store.view c.args.self.now c.take_given.new.self c.go_on.new.self
    c.take_given.ensures.stays (c.go_on.ensures.failed e)

pub returns-in-Ok-clause-went : goal.returns-in-Ok-clause-went
returns-in-Ok-clause-went g c tells came all its = λ from h.
    c.go_on.ensures.went tells came (c.in-Ok.ensures.all tells came all its) from
    (c.take_given.ensures.went tells came all its from h)

pub returns-in-Ok-clause-all : goal.returns-in-Ok-clause-all
returns-in-Ok-clause-all g c tells came all its =
    c.go_on.ensures.all tells came (c.in-Ok.ensures.all tells came all its)
