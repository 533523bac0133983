use Rattle.std.proofs.Common.{List, [], ◌∷◌}
use Rattle.run_rules.specs.declared.step.Step.{Step}
use Rattle.server_node.proofs.Standing.{stands_on, to_server}
use Rattle.server_node.proofs.Staying.{all_then, served_by}
use Rattle.server_node.specs.Laws.{stays_so}
use Rattle.server_node.proofs.Turns.{heard_then, pushed, ready_then}
use Rattle.server_node.specs.Standing.{StandsSo}
use Rattle.server_node.specs.declared.server.ServerNode.{ServerNode}
use Rattle.server_node.proofs.server.ServerNode.hear.Goals as goal

pub take-made-requires-clause-given : goal.take-made-requires-clause-given
take-made-requires-clause-given g c =
    let way = c.is_to_server.ensures.0 c.if-is_to_server.true in
    record {
      sound = c.requires.sound;
      own = to_server c.args.message c.args.self.now.exporter.tables.server c.requires.own way;
      way = way;
    }

pub returns-then-is_to_server-clause-ready : goal.returns-then-is_to_server-clause-ready
returns-then-is_to_server-clause-ready g c =
    let now : ServerNode g.row.S.Denot =
    record c.args.self.now { exporter = c.take-made.new.self; keeper = c.take-made.new.keeper } in
    ready_then g.S.Store.tells g.S.Store.view c.take-made.result c.push_made.result now
    (g.S.Store.view c.args.self.now.keeper.store) c.push_made.ensures.made c.take-made.ensures.served
    (c.take-made.ensures.sound c.requires.ready.sound) c.take-made.ensures.tried

pub returns-then-is_to_server-clause-works : goal.returns-then-is_to_server-clause-works
returns-then-is_to_server-clause-works g c = λ part past so.
    let now : ServerNode g.row.S.Denot =
    record c.args.self.now { exporter = c.take-made.new.self; keeper = c.take-made.new.keeper } in
    pushed c.take-made.result c.push_made.result c.args.steps.now.steps c.push_made.new.steps.steps
    (λ (l : List Step). StandsSo g.S.Store.tells g.S.Store.view part now past l [] 0) c.push_made.ensures.made
    c.push_made.ensures.ok
    (heard_then g.S.Store.tells g.S.Store.view part c.args.self.now past c.args.steps.now.steps c.args.message so
    c.take-made.new.self c.take-made.new.keeper c.take-made.result (c.take-made.ensures.sends c.requires.ready.sound)
    c.take-made.ensures.same c.take-made.ensures.cause c.take-made.ensures.meets c.take-made.ensures.follows)

pub returns-then-is_to_server-clause-stays : goal.returns-then-is_to_server-clause-stays
returns-then-is_to_server-clause-stays g c =
    let now : ServerNode g.row.S.Denot =
    record c.args.self.now { exporter = c.take-made.new.self; keeper = c.take-made.new.keeper } in
    served_by g.S.Store.tells g.S.Store.view c.take-made.result c.args.self.now now c.take-made.ensures.tried

pub returns-then-is_to_server-clause-failed : goal.returns-then-is_to_server-clause-failed
returns-then-is_to_server-clause-failed g c = λ e. c.take-made.ensures.tried.blame (c.push_made.ensures.err e)

-- what another server says is let go
pub returns-clause-works : goal.returns-clause-works
returns-clause-works g c = λ part past so.
    stands_on g.S.Store.tells g.S.Store.view part c.args.self.now past c.args.steps.now.steps (c.args.message ∷ []) 0
    (g.S.Store.view c.args.self.now.keeper.store).state so

pub returns-clause-stays : goal.returns-clause-stays
returns-clause-stays g c = stays_so g.S.Store.tells g.S.Store.view c.args.self.now

pub returns-then-is_to_server-clause-went : goal.returns-then-is_to_server-clause-went
returns-then-is_to_server-clause-went g c tells came all its = c.take-made.ensures.went tells came its all.0

pub returns-then-is_to_server-clause-all : goal.returns-then-is_to_server-clause-all
returns-then-is_to_server-clause-all g c tells came all its =
    let now : ServerNode g.row.S.Denot =
    record c.args.self.now { exporter = c.take-made.new.self; keeper = c.take-made.new.keeper } in
    all_then came c.take-made.result c.push_made.result now c.push_made.ensures.made
    (c.take-made.ensures.brought tells came its all.0) all.1
