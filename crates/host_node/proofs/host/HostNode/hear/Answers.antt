use Rattle.std.proofs.Common.{List, [], ◌∷◌}
use Rattle.host_node.proofs.Turns.{heard_then, let_go, pushed}
use Rattle.host_node.specs.Standing.{IsInTurn, IsOver}
use Rattle.host_node.specs.declared.host.HostNode.{HostNode}
use Rattle.run_rules.specs.declared.step.Step.{Step}
use Rattle.host_node.proofs.host.HostNode.hear.Goals as goal

pub returns-then-is_over : goal.returns-then-is_over
returns-then-is_over c = λ part past turn sound own.
    let_go part c.args.self.now past c.args.steps.now.steps (c.args.message ∷ []) 0 turn

pub returns : goal.returns
returns c = λ part past turn sound own.
    let now : HostNode = record c.args.self.now { manager = c.take-made.new.self } in
    let live : IsOver c.args.self.now → ⊥ =
    (λ over. let is = c.is_over.ensures.1 over in let no = c.if-is_over.false in absurd (cc)) in
    pushed c.take-made.result c.push_made.result c.args.steps.now.steps c.push_made.new.steps.steps
    (λ (l : List Step). IsInTurn part now past l [] 0) c.push_made.ensures.made c.push_made.ensures.ok
    (heard_then part c.args.self.now past c.args.steps.now.steps live c.args.message turn sound own c.take-made.new.self
    c.take-made.result c.take-made.ensures.right c.take-made.ensures.own c.take-made.ensures.due)
