use Rattle.std.proofs.Common.{List, []}
use Rattle.host_node.proofs.Turns.{evicted_then, pushed_some}
use Rattle.host_node.specs.Standing.{IsInTurn}
use Rattle.host_node.specs.declared.host.HostNode.{HostNode}
use Rattle.run_rules.specs.declared.step.Step.{Step}
use Rattle.host_node.proofs.host.HostNode.evict.Goals as goal

pub returns : goal.returns
returns c = λ part past turn.
    let now : HostNode = record c.args.self.now { manager = c.evict-made.new.self } in
    pushed_some c.evict-made.result c.push_some.result c.args.steps.now.steps c.push_some.new.steps.steps
    (λ (l : List Step). IsInTurn part now past l [] 0) c.push_some.ensures.made c.push_some.ensures.ok
    (evicted_then part c.args.self.now past c.args.steps.now.steps c.requires.live turn c.evict-made.new.self
    c.evict-made.result c.evict-made.ensures.right c.evict-made.ensures.own c.evict-made.ensures.due)
