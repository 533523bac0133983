use Rattle.std.proofs.Common.{sym, subst}
use Rattle.hub_laws.specs.Keeping.{lapse_in, message_in}
use Rattle.server_node.proofs.Staying.{put_all}
use Rattle.server_node.specs.Standing.{HasCome}
use Rattle.server_node.specs.declared.server.ServerNode.{ServerNode}
use Rattle.server_node.proofs.Turns.{given_still, kept_ready, kept_rested, kept_stays, kept_theirs, kept_then}
use Rattle.server_node.specs.Laws.{stays_on}
use Rattle.server_node.proofs.server.ServerNode.keep.Goals as goal

pub returns-in-Ok-clause-ready : goal.returns-in-Ok-clause-ready
returns-in-Ok-clause-ready g c =
    kept_ready g.S.Store.tells g.S.Store.view c.make_room.new.self c.put.new.self c.put.result c.put.ensures.rest
    c.in-Ok.ensures.ready

pub returns-in-Ok-clause-rested : goal.returns-in-Ok-clause-rested
returns-in-Ok-clause-rested g c =
    kept_rested g.S.Store.tells g.S.Store.view c.make_room.new.self c.put.new.self c.put.result c.put.ensures.rest
    c.in-Ok.ensures.rested

pub returns-in-Ok-clause-theirs : goal.returns-in-Ok-clause-theirs
returns-in-Ok-clause-theirs g c =
    kept_theirs g.S.Store.tells g.S.Store.view c.make_room.new.self c.put.new.self c.put.result c.args.given
    c.requires.back c.put.ensures.rest
    (given_still g.S.Store.tells g.S.Store.view c.args.self.now c.make_room.new.self c.requires.ready
    c.in-Ok.ensures.ready c.make_room.ensures.stays c.args.given c.requires.given)
    c.in-Ok.ensures.theirs c.put.ensures.kept

pub returns-in-Ok-clause-works : goal.returns-in-Ok-clause-works
returns-in-Ok-clause-works g c = λ part past so.
    kept_then g.S.Store.tells g.S.Store.view part c.make_room.new.self past c.make_room.new.steps.steps c.put.result
    c.put.new.self c.args.given c.requires.back c.put.ensures.rest c.put.ensures.kept
    (c.in-Ok.ensures.works part past (message_in c.args.given) (lapse_in c.args.given) so)

pub returns-in-Ok-clause-stays : goal.returns-in-Ok-clause-stays
returns-in-Ok-clause-stays g c =
    stays_on g.S.Store.tells g.S.Store.view c.args.self.now c.make_room.new.self c.put.new.self
    c.make_room.ensures.stays
    (kept_stays g.S.Store.tells g.S.Store.view c.make_room.new.self c.put.new.self c.put.ensures.rest)

pub returns-in-Ok-clause-went : goal.returns-in-Ok-clause-went
returns-in-Ok-clause-went g c tells came all its = λ from h.
    subst (λ (z : ServerNode g.row.S.Denot). HasCome came from (g.S.Store.view z.keeper.store).state)
    (sym c.put.ensures.rest) (c.make_room.ensures.went tells came all from h)

pub returns-in-Ok-clause-all : goal.returns-in-Ok-clause-all
returns-in-Ok-clause-all g c tells came all its =
    put_all came c.make_room.new.self c.put.new.self c.put.result c.args.given c.requires.back c.put.ensures.rest
    c.put.ensures.kept its (c.in-Ok.ensures.all tells came all)
