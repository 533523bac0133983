use Rattle.std.proofs.Common.{Option, subst}
use Rattle.std.specs.Prelude.{IfSome}
use Rattle.hub_board.specs.declared.given.Given.{Given}
use Rattle.hub_laws.specs.Keeping.{lapse_in, message_in}
use Rattle.hub_node.specs.Nodes.{IsGivenTo}
use Rattle.host_node.specs.Standing.{IsInTurn, WasGiven}
use Rattle.host_node.proofs.host.HostNode.take_given.Goals as goal

pub returns-in-Some : goal.returns-in-Some
returns-in-Some c = λ part past turn to given.
    c.take.ensures part past
    (subst (λ (x : Option Given). IsInTurn part c.args.self.now past c.args.steps.now.steps (message_in x) (lapse_in x))
    c.in-Some.is turn)
    (subst (λ (x : Option Given). IsGivenTo part x) c.in-Some.is to)
    (subst (λ (x : Option Given). IfSome x (WasGiven past)) c.in-Some.is given)

pub returns-in-None : goal.returns-in-None
returns-in-None c = λ part past turn to given.
    subst (λ (x : Option Given). IsInTurn part c.args.self.now past c.args.steps.now.steps (message_in x) (lapse_in x))
    c.in-None.is turn
