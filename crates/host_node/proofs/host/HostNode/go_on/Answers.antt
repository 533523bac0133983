use Rattle.host_node.proofs.host.HostNode.go_on.Goals as goal

pub loop-init : goal.loop-init
loop-init c = λ part past turn. turn

pub loop-preserved : goal.loop-preserved
loop-preserved c = λ part past turn. c.in_ok-made.ensures part past (c.loop.invariant part past turn)

pub returns-then-not-made : goal.returns-then-not-made
returns-then-not-made c = λ part past turn. c.in_ok-made.ensures part past (c.loop.invariant part past turn)

pub returns : goal.returns
returns c = λ part past turn. c.loop.invariant part past turn
