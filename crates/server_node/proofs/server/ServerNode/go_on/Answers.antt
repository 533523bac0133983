use Rattle.std.proofs.Common.{[]}
use Rattle.server_node.specs.Laws.{fails_later, stays_on}
use Rattle.server_node.proofs.server.ServerNode.go_on.Goals as goal

pub returns-in-Ok-clause-works : goal.returns-in-Ok-clause-works
returns-in-Ok-clause-works g c = λ part past so.
    c.settle.ensures.works part past [] 0 (c.in-Ok.ensures.works part past so)

pub returns-in-Ok-clause-stays : goal.returns-in-Ok-clause-stays
returns-in-Ok-clause-stays g c =
    stays_on g.S.Store.tells g.S.Store.view c.args.self.now c.go.new.self c.settle.new.self c.go.ensures.stays
    c.settle.ensures.stays

pub returns-in-Ok-clause-failed : goal.returns-in-Ok-clause-failed
returns-in-Ok-clause-failed g c = λ e.
    fails_later g.S.Store.tells g.S.Store.view c.args.self.now c.go.new.self c.settle.new.self c.go.ensures.stays
    (c.settle.ensures.failed e)

pub returns-in-Ok-clause-went : goal.returns-in-Ok-clause-went
returns-in-Ok-clause-went g c tells came all = λ from h.
    c.settle.ensures.went tells came (c.in-Ok.ensures.all tells came all) from
    (c.go.ensures.went tells came all from h)

pub returns-in-Ok-clause-all : goal.returns-in-Ok-clause-all
returns-in-Ok-clause-all g c tells came all =
    c.settle.ensures.all tells came (c.in-Ok.ensures.all tells came all)
