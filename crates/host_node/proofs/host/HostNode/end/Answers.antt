use Rattle.std.proofs.Common.{List, []}
use Rattle.host_node.proofs.Turns.{ended_then, pushed_some}
use Rattle.host_node.specs.Standing.{IsInTurn}
use Rattle.host_node.specs.declared.host.HostNode.{HostNode}
use Rattle.run_rules.specs.declared.step.Step.{Step}
use Rattle.host_node.proofs.host.HostNode.end.Goals as goal

pub returns-then-may_end : goal.returns-then-may_end
returns-then-may_end c = λ part past turn.
    let now : HostNode = record c.args.self.now { manager = c.end-made.new.self } in
    pushed_some c.end-made.result c.push_some.result c.args.steps.now.steps c.push_some.new.steps.steps
    (λ (l : List Step). IsInTurn part now past l [] 0) c.push_some.ensures.made c.push_some.ensures.ok
    (ended_then part c.args.self.now past c.args.steps.now.steps c.requires.live turn c.requires.gone
    c.end-made.new.self c.end-made.result c.end-made.ensures.right c.end-made.ensures.own c.end-made.ensures.due)
