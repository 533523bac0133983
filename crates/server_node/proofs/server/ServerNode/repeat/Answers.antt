use Rattle.std.proofs.Common.{List, []}
use Rattle.run_rules.specs.declared.step.Step.{Step}
use Rattle.server_node.proofs.Staying.{all_then, same_keeper}
use Rattle.server_node.proofs.Turns.{pushed, ready_still, repeated_then}
use Rattle.server_node.specs.Standing.{StandsSo}
use Rattle.server_node.specs.declared.server.ServerNode.{ServerNode}
use Rattle.server_node.proofs.server.ServerNode.repeat.Goals as goal

pub returns-clause-ready : goal.returns-clause-ready
returns-clause-ready g c =
    let now : ServerNode g.row.S.Denot = record c.args.self.now { exporter = c.lapse-made.new.self } in
    ready_still g.S.Store.tells g.S.Store.view c.lapse-made.result c.push_sent.result now c.push_sent.ensures.made
    (c.lapse-made.ensures.served (g.S.Store.view c.args.self.now.keeper.store).state c.requires.ready.served)
    (c.lapse-made.ensures.sound c.requires.ready.sound) c.requires.ready.fit

pub returns-clause-works : goal.returns-clause-works
returns-clause-works g c = λ part past so.
    let now : ServerNode g.row.S.Denot = record c.args.self.now { exporter = c.lapse-made.new.self } in
    pushed c.lapse-made.result c.push_sent.result c.args.steps.now.steps c.push_sent.new.steps.steps
    (λ (l : List Step). StandsSo g.S.Store.tells g.S.Store.view part now past l [] 0) c.push_sent.ensures.made
    c.push_sent.ensures.ok
    (repeated_then g.S.Store.tells g.S.Store.view part c.args.self.now past c.args.steps.now.steps so
    c.lapse-made.new.self c.lapse-made.result (c.lapse-made.ensures.sends c.requires.ready.sound)
    c.lapse-made.ensures.same
    c.lapse-made.ensures.cause c.lapse-made.ensures.meets c.lapse-made.ensures.follows c.lapse-made.ensures.keeps
    c.lapse-made.ensures.applied)

pub returns-clause-stays : goal.returns-clause-stays
returns-clause-stays g c =
    same_keeper g.S.Store.tells g.S.Store.view c.args.self.now c.lapse-made.new.self c.args.self.now.lines

pub returns-clause-all : goal.returns-clause-all
returns-clause-all g c tells came all =
    let now : ServerNode g.row.S.Denot = record c.args.self.now { exporter = c.lapse-made.new.self } in
    all_then came c.lapse-made.result c.push_sent.result now c.push_sent.ensures.made
    (c.lapse-made.ensures.brought came all.0) all.1
