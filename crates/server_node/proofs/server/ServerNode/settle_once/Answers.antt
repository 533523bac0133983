use Rattle.std.proofs.Common.{List}
use Rattle.run_rules.specs.declared.step.Step.{Step}
use Rattle.server_node.proofs.Staying.{all_then, served_by}
use Rattle.server_node.proofs.Turns.{pushed, ready_then, settled_then}
use Rattle.server_node.specs.Standing.{StandsSo}
use Rattle.server_node.specs.declared.server.ServerNode.{ServerNode}
use Rattle.server_node.proofs.server.ServerNode.settle_once.Goals as goal

pub returns-clause-ready : goal.returns-clause-ready
returns-clause-ready g c =
    let now : ServerNode g.row.S.Denot =
    record c.args.self.now { exporter = c.settle-made.new.self; keeper = c.settle-made.new.keeper } in
    ready_then g.S.Store.tells g.S.Store.view c.settle-made.result c.push_made.result now
    (g.S.Store.view c.args.self.now.keeper.store) c.push_made.ensures.made c.settle-made.ensures.served
    (c.settle-made.ensures.sound c.requires.ready.sound) c.settle-made.ensures.tried

pub returns-clause-works : goal.returns-clause-works
returns-clause-works g c = λ part past came lapses so.
    let now : ServerNode g.row.S.Denot =
    record c.args.self.now { exporter = c.settle-made.new.self; keeper = c.settle-made.new.keeper } in
    pushed c.settle-made.result c.push_made.result c.args.steps.now.steps c.push_made.new.steps.steps
    (λ (l : List Step). StandsSo g.S.Store.tells g.S.Store.view part now past l came lapses) c.push_made.ensures.made
    c.push_made.ensures.ok
    (settled_then g.S.Store.tells g.S.Store.view part c.args.self.now past c.args.steps.now.steps came lapses so
    c.settle-made.new.self c.settle-made.new.keeper c.settle-made.result
    (c.settle-made.ensures.sends c.requires.ready.sound)
    c.settle-made.ensures.same c.settle-made.ensures.cause c.settle-made.ensures.meets c.settle-made.ensures.follows)

pub returns-clause-stays : goal.returns-clause-stays
returns-clause-stays g c =
    let now : ServerNode g.row.S.Denot =
    record c.args.self.now { exporter = c.settle-made.new.self; keeper = c.settle-made.new.keeper } in
    served_by g.S.Store.tells g.S.Store.view c.settle-made.result c.args.self.now now c.settle-made.ensures.tried

pub returns-clause-failed : goal.returns-clause-failed
returns-clause-failed g c = λ e. c.settle-made.ensures.tried.blame (c.push_made.ensures.err e)

pub returns-clause-went : goal.returns-clause-went
returns-clause-went g c tells came all = c.settle-made.ensures.went tells came all.0

pub returns-clause-all : goal.returns-clause-all
returns-clause-all g c tells came all =
    let now : ServerNode g.row.S.Denot =
    record c.args.self.now { exporter = c.settle-made.new.self; keeper = c.settle-made.new.keeper } in
    all_then came c.settle-made.result c.push_made.result now c.push_made.ensures.made
    (c.settle-made.ensures.brought tells came all.0) all.1
