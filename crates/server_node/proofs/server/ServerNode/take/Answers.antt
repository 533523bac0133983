use Rattle.std.proofs.Common.{Some, subst}
use Rattle.hub_board.specs.declared.given.Given.{Given}
use Rattle.hub_laws.specs.Keeping.{lapse_in, message_in}
use Rattle.server_node.proofs.Staying.{same_keeper}
use Rattle.server_node.proofs.Turns.{told_then}
use Rattle.server_node.specs.Laws.{stays_so}
use Rattle.server_node.specs.Standing.{StandsSo, WasGiven}
use Rattle.server_node.proofs.server.ServerNode.take.Goals as goal

pub returns-in-Begun-clause-stays : goal.returns-in-Begun-clause-stays
returns-in-Begun-clause-stays g c = stays_so g.S.Store.tells g.S.Store.view c.args.self.now

pub returns-in-Raised-clause-works : goal.returns-in-Raised-clause-works
returns-in-Raised-clause-works g c = λ part past so given.
    let tells = g.S.Store.tells in let view = g.S.Store.view in
    rw c.tell.ensures (told_then tells view part c.args.self.now past c.args.steps.now.steps c.in-Raised.flag
    (subst (λ (x : Given). StandsSo tells view part c.args.self.now past c.args.steps.now.steps (message_in (Some x))
    (lapse_in (Some x))) c.in-Raised.is so)
    (subst (λ (x : Given). WasGiven past x) c.in-Raised.is given))

pub returns-in-Raised-clause-stays : goal.returns-in-Raised-clause-stays
returns-in-Raised-clause-stays g c =
    same_keeper g.S.Store.tells g.S.Store.view c.args.self.now c.args.self.now.exporter c.tell.new.self

pub hear-requires-clause-sound : goal.hear-requires-clause-sound
hear-requires-clause-sound g c = (c.requires.given c.in-Message.message c.in-Message.is).0

pub hear-requires-clause-own : goal.hear-requires-clause-own
hear-requires-clause-own g c = (c.requires.given c.in-Message.message c.in-Message.is).1
