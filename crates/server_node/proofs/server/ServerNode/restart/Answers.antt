use Rattle.std.proofs.Common.{List, []}
use Rattle.run_rules.specs.declared.step.Step.{Step}
use Rattle.server_node.proofs.Staying.{all_then, served_by}
use Rattle.server_node.proofs.Turns.{next_below, pushed, ready_then, restarted_then}
use Rattle.server_node.specs.Standing.{StandsSo}
use Rattle.server_node.specs.declared.server.ServerNode.{ServerNode}
use Rattle.server_node.proofs.server.ServerNode.restart.Goals as goal

pub go-requires : goal.go-requires
go-requires g c = next_below c.args.self.now.lines c.requires.next.0 c.requires.next.1

pub returns-clause-ready : goal.returns-clause-ready
returns-clause-ready g c =
    let now : ServerNode g.row.S.Denot =
    record {
      exporter = c.restart-made.new.self;
      keeper = c.restart-made.new.keeper;
      lines = c.go.new.self;
      inbox =
          c.args.self.now.inbox;
    } in
    ready_then g.S.Store.tells g.S.Store.view c.restart-made.result c.push_made.result now
    (g.S.Store.view c.args.self.now.keeper.store) c.push_made.ensures.made c.restart-made.ensures.served
    (c.restart-made.ensures.sound c.requires.ready.sound) c.restart-made.ensures.tried

pub returns-clause-works : goal.returns-clause-works
returns-clause-works g c = λ part past so.
    let now : ServerNode g.row.S.Denot =
    record {
      exporter = c.restart-made.new.self;
      keeper = c.restart-made.new.keeper;
      lines = c.go.new.self;
      inbox =
          c.args.self.now.inbox;
    } in
    pushed c.restart-made.result c.push_made.result c.args.steps.now.steps c.push_made.new.steps.steps
    (λ (l : List Step). StandsSo g.S.Store.tells g.S.Store.view part now past l [] 0) c.push_made.ensures.made
    c.push_made.ensures.ok
    (rw c.go.ensures (restarted_then g.S.Store.tells g.S.Store.view part c.args.self.now past c.args.steps.now.steps so
    c.args.number c.requires.next c.restart-made.new.self c.restart-made.new.keeper c.restart-made.result
    (c.restart-made.ensures.sends c.requires.ready.sound) c.restart-made.ensures.same c.restart-made.ensures.cause
    c.restart-made.ensures.meets
    c.restart-made.ensures.follows))

pub returns-clause-stays : goal.returns-clause-stays
returns-clause-stays g c =
    let now : ServerNode g.row.S.Denot =
    record {
      exporter = c.restart-made.new.self;
      keeper = c.restart-made.new.keeper;
      lines = c.go.new.self;
      inbox =
          c.args.self.now.inbox;
    } in
    served_by g.S.Store.tells g.S.Store.view c.restart-made.result c.args.self.now now c.restart-made.ensures.tried

pub returns-clause-failed : goal.returns-clause-failed
returns-clause-failed g c = λ e. c.restart-made.ensures.tried.blame (c.push_made.ensures.err e)

pub returns-clause-went : goal.returns-clause-went
returns-clause-went g c tells came all = c.restart-made.ensures.went tells came

pub returns-clause-all : goal.returns-clause-all
returns-clause-all g c tells came all =
    let now : ServerNode g.row.S.Denot =
    record {
      exporter = c.restart-made.new.self;
      keeper = c.restart-made.new.keeper;
      lines = c.go.new.self;
      inbox = c.args.self.now.inbox;
    } in
    all_then came c.restart-made.result c.push_made.result now c.push_made.ensures.made
    (c.restart-made.ensures.brought came) all.1
