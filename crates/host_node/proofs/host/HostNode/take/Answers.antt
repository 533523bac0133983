use Rattle.std.proofs.Common.{Some, subst}
use Rattle.hub_board.specs.declared.given.Given.{Given}
use Rattle.hub_laws.specs.Keeping.{lapse_in, message_in}
use Rattle.host_node.proofs.Turns.{begun_then, told_then}
use Rattle.host_node.specs.Standing.{IsInTurn, WasGiven}
use Rattle.host_node.proofs.host.HostNode.take.Goals as goal

pub returns-in-Begun : goal.returns-in-Begun
returns-in-Begun c = λ part past turn to given.
    begun_then part c.args.self.now past c.args.steps.now.steps
    (subst (λ (x : Given). IsInTurn part c.args.self.now past c.args.steps.now.steps (message_in (Some x))
    (lapse_in (Some x))) c.in-Begun.is turn)
    (subst (λ (x : Given). WasGiven past x) c.in-Begun.is given)

pub returns-in-Raised : goal.returns-in-Raised
returns-in-Raised c = λ part past turn to given.
    rw c.tell.ensures (told_then part c.args.self.now past c.args.steps.now.steps c.in-Raised.flag
    (subst (λ (x : Given). IsInTurn part c.args.self.now past c.args.steps.now.steps (message_in (Some x))
    (lapse_in (Some x))) c.in-Raised.is turn)
    (subst (λ (x : Given). WasGiven past x) c.in-Raised.is given))

pub returns-in-Message : goal.returns-in-Message
returns-in-Message c = λ part past turn to given.
    c.hear.ensures part past
    (subst (λ (x : Given). IsInTurn part c.args.self.now past c.args.steps.now.steps (message_in (Some x))
    (lapse_in (Some x))) c.in-Message.is turn)
    (to.sound c.in-Message.message (λ i. Some (c.in-Message.is i))) (to.own c.in-Message.message (λ i. Some
    (c.in-Message.is i)))

pub returns-in-Lapse : goal.returns-in-Lapse
returns-in-Lapse c = λ part past turn to given.
    c.repeat.ensures part past
    (subst (λ (x : Given). IsInTurn part c.args.self.now past c.args.steps.now.steps (message_in (Some x))
    (lapse_in (Some x))) c.in-Lapse.is turn)
