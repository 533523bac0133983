use Rattle.std.proofs.Common.{◌++◌, ◌∙◌}
use Rattle.server_node.proofs.Turns.{all_ok, gathers_of}
use Rattle.server_node.specs.Laws.{fails_later, stays_on}
use Rattle.server_node.specs.Standing.{latest_first}
use Rattle.server_node.proofs.server.ServerNode.gather_next.Goals as goal

pub returns-in-Ok-clause-works : goal.returns-in-Ok-clause-works
returns-in-Ok-clause-works g c = λ part past came lapses limited so.
    let then = c.in-Ok.ensures.works part past came lapses limited so in
    gathers_of g.S.Store.tells g.S.Store.view part c.args.self.now past c.args.steps.now.steps c.settle_gathered.result
    c.settle_gathered.new.self c.settle_gathered.new.waiting c.settle_gathered.new.steps.steps c.gather.new.self.inbox
    c.settle_gathered.new.self.inbox came lapses c.settle_gathered.ensures.inbox
    (c.settle_gathered.ensures.works part past (came ++ latest_first c.gather.new.self.inbox) lapses then.0 then.1)

pub returns-in-Ok-clause-stays : goal.returns-in-Ok-clause-stays
returns-in-Ok-clause-stays g c =
    stays_on g.S.Store.tells g.S.Store.view c.args.self.now c.gather.new.self c.settle_gathered.new.self
    c.in-Ok.ensures.stays c.settle_gathered.ensures.stays

pub returns-in-Ok-clause-failed : goal.returns-in-Ok-clause-failed
returns-in-Ok-clause-failed g c = λ e.
    fails_later g.S.Store.tells g.S.Store.view c.args.self.now c.gather.new.self c.settle_gathered.new.self
    c.in-Ok.ensures.stays (c.settle_gathered.ensures.failed e)

pub returns-in-Ok-clause-inbox : goal.returns-in-Ok-clause-inbox
returns-in-Ok-clause-inbox g c =
    all_ok c.settle_gathered.result (c.settle_gathered.ensures.inbox ∙ c.gather.ensures.inbox)

pub returns-in-Ok-clause-went : goal.returns-in-Ok-clause-went
returns-in-Ok-clause-went g c tells came all waits = λ from h.
    c.settle_gathered.ensures.went tells came (c.in-Ok.ensures.all tells came all waits)
    (c.in-Ok.ensures.done_for came all.1 waits) from (c.gather.ensures.went tells came all waits from h)

pub returns-in-Ok-clause-all : goal.returns-in-Ok-clause-all
returns-in-Ok-clause-all g c tells came all waits =
    c.settle_gathered.ensures.all tells came (c.in-Ok.ensures.all tells came all waits)
    (c.in-Ok.ensures.done_for came all.1 waits)

pub returns-in-Ok-clause-done_for : goal.returns-in-Ok-clause-done_for
returns-in-Ok-clause-done_for g c came kept waits =
    c.settle_gathered.ensures.done_for came (c.in-Ok.ensures.done_for came kept waits)
