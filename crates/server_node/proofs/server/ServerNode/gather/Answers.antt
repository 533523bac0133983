use Rattle.std.proofs.Common.{List, ◌++◌}
use Rattle.run_rules.specs.declared.step.Step.{Step}
use Rattle.message_types.specs.Soundness.{Each}
use Rattle.server_exporter.specs.Gathering.{AreGives}
use Rattle.server_exporter.specs.Keepers.{IsDoneFor}
use Rattle.server_node.proofs.Kept.{first_theirs, latest_but}
use Rattle.server_node.proofs.Staying.{all_then, first_in, rest_in, served_by}
use Rattle.server_node.proofs.Turns.{Gathers, gathered_then, made_then, pushed, ready_then}
use Rattle.server_node.specs.Standing.{latest_first}
use Rattle.server_node.specs.declared.server.ServerNode.{ServerNode}
use Rattle.server_node.proofs.server.ServerNode.gather.Goals as goal

pub gather-made-requires-clause-given : goal.gather-made-requires-clause-given
gather-made-requires-clause-given g c =
    first_theirs c.args.self.now.exporter.tables c.args.self.now.inbox c.remove-message.result c.requires.some
    c.remove-message.ensures.value c.requires.theirs

pub returns-clause-ready : goal.returns-clause-ready
returns-clause-ready g c =
    let now : ServerNode g.row.S.Denot =
    record c.args.self.now {
      exporter = c.gather-made.new.self;
      keeper = c.gather-made.new.keeper;
      inbox = c.remove-message.new.self;
    } in
    ready_then g.S.Store.tells g.S.Store.view c.gather-made.result c.push_made.result now
    (g.S.Store.view c.args.self.now.keeper.store) c.push_made.ensures.made c.gather-made.ensures.served
    (c.gather-made.ensures.sound c.requires.ready.sound) c.gather-made.ensures.tried

pub returns-clause-gives : goal.returns-clause-gives
returns-clause-gives g c =
    made_then c.gather-made.result c.push_made.result
    (AreGives (g.S.Store.view c.gather-made.new.keeper.store).state c.gather-made.new.waiting)
    c.push_made.ensures.made c.gather-made.ensures.gives

pub returns-clause-works : goal.returns-clause-works
returns-clause-works g c = λ part past came lapses limited so.
    let n = c.args.self.now in
    let now : ServerNode g.row.S.Denot =
    record n {
      exporter = c.gather-made.new.self;
      keeper = c.gather-made.new.keeper;
      inbox = c.remove-message.new.self;
    } in
    pushed c.gather-made.result c.push_made.result c.args.steps.now.steps c.push_made.new.steps.steps
    (λ (l : List Step). Gathers g.S.Store.tells g.S.Store.view part n past c.args.steps.now.steps now
    c.gather-made.new.waiting l (came ++ latest_first c.remove-message.new.self) lapses) c.push_made.ensures.made
    c.push_made.ensures.ok
    (gathered_then g.S.Store.tells g.S.Store.view part n past c.args.steps.now.steps c.remove-message.result
    c.remove-message.new.self came lapses c.args.waiting.now c.gather-made.new.waiting c.gather-made.new.self
    c.gather-made.new.keeper c.gather-made.result
    (latest_but n.inbox c.remove-message.new.self c.remove-message.result c.requires.some c.remove-message.ensures.value
    c.remove-message.ensures.rest)
    (c.gather-made.ensures.sends c.requires.ready.sound) c.gather-made.ensures.same c.gather-made.ensures.cause limited
    c.gather-made.ensures.stays c.gather-made.ensures.meets c.gather-made.ensures.follows so)

pub returns-clause-stays : goal.returns-clause-stays
returns-clause-stays g c =
    let now : ServerNode g.row.S.Denot =
    record c.args.self.now {
      exporter = c.gather-made.new.self;
      keeper = c.gather-made.new.keeper;
      inbox = c.remove-message.new.self;
    } in
    served_by g.S.Store.tells g.S.Store.view c.gather-made.result c.args.self.now now c.gather-made.ensures.tried

pub returns-clause-failed : goal.returns-clause-failed
returns-clause-failed g c = λ e. c.gather-made.ensures.tried.blame (c.push_made.ensures.err e)

pub returns-clause-went : goal.returns-clause-went
returns-clause-went g c tells came all waits =
    c.gather-made.ensures.went tells came
    (first_in came c.args.self.now.inbox c.remove-message.result c.requires.some c.remove-message.ensures.value all.1)
    all.0 waits

pub returns-clause-all : goal.returns-clause-all
returns-clause-all g c tells came all waits =
    let now : ServerNode g.row.S.Denot =
    record c.args.self.now {
      exporter = c.gather-made.new.self;
      keeper = c.gather-made.new.keeper;
      inbox = c.remove-message.new.self;
    } in
    all_then came c.gather-made.result c.push_made.result now c.push_made.ensures.made
    (c.gather-made.ensures.brought tells came
    (first_in came c.args.self.now.inbox c.remove-message.result c.requires.some c.remove-message.ensures.value all.1)
    all.0)
    (rest_in came c.args.self.now.inbox c.remove-message.new.self c.remove-message.ensures.rest all.1)

pub returns-clause-done_for : goal.returns-clause-done_for
returns-clause-done_for g c came kept waits =
    made_then c.gather-made.result c.push_made.result (Each (IsDoneFor came) c.gather-made.new.waiting)
    c.push_made.ensures.made
    (c.gather-made.ensures.waits came
    (first_in came c.args.self.now.inbox c.remove-message.result c.requires.some c.remove-message.ensures.value kept)
    waits)
