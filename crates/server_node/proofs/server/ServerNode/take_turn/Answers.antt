use Rattle.std.proofs.Common.{◌∙◌, List, sym, subst}
use Rattle.std.specs.Prelude.{OnOk}
use Rattle.hub_laws.specs.Keeping.{lapse_in, message_in}
use Rattle.message_types.specs.declared.message.Message.{Message}
use Rattle.server_node.proofs.Turns.{given_still, none_theirs}
use Rattle.server_node.specs.Laws.{fails_later, stays_on}
use Rattle.server_node.specs.Standing.{StandsSo, latest_first}
use Rattle.server_node.proofs.server.ServerNode.take_turn.Goals as goal

pub keep-requires-clause-back : goal.keep-requires-clause-back
keep-requires-clause-back g c = c.may_keep.ensures c.if-may_keep.true

pub returns-then-may_keep-clause-works : goal.returns-then-may_keep-clause-works
returns-then-may_keep-clause-works g c = λ part past so given. c.keep.ensures.works part past so

pub take_rest-requires-clause-given : goal.take_rest-requires-clause-given
take_rest-requires-clause-given g c =
    given_still g.S.Store.tells g.S.Store.view c.args.self.now c.take_kept.new.self c.requires.ready
    c.in-Ok.ensures.ready c.take_kept.ensures.stays c.args.given c.requires.given

pub returns-in-Ok-clause-theirs : goal.returns-in-Ok-clause-theirs
returns-in-Ok-clause-theirs g c =
    none_theirs g.S.Store.tells g.S.Store.view c.args.self.now c.take_rest.new.self c.take_rest.result
    c.take_rest.new.self.exporter.tables c.take_rest.new.self.inbox c.take_kept.new.self.inbox c.take_rest.ensures.inbox
    c.in-Ok.ensures.inbox

pub returns-in-Ok-clause-works : goal.returns-in-Ok-clause-works
returns-in-Ok-clause-works g c = λ part past so given.
    subst (λ (l : List Message). OnOk c.take_rest.result (StandsSo g.S.Store.tells g.S.Store.view part
    c.take_rest.new.self past c.take_rest.new.steps.steps (latest_first l) 0))
    (sym (c.take_rest.ensures.inbox ∙ c.in-Ok.ensures.inbox))
    (c.take_rest.ensures.works part past
    (c.in-Ok.ensures.works part past (message_in c.args.given) (lapse_in c.args.given) so) given)

pub returns-in-Ok-clause-stays : goal.returns-in-Ok-clause-stays
returns-in-Ok-clause-stays g c =
    stays_on g.S.Store.tells g.S.Store.view c.args.self.now c.take_kept.new.self c.take_rest.new.self
    c.take_kept.ensures.stays c.take_rest.ensures.stays

pub returns-in-Ok-clause-failed : goal.returns-in-Ok-clause-failed
returns-in-Ok-clause-failed g c = λ e.
    fails_later g.S.Store.tells g.S.Store.view c.args.self.now c.take_kept.new.self c.take_rest.new.self
    c.take_kept.ensures.stays (c.take_rest.ensures.failed e)

pub returns-in-Ok-clause-went : goal.returns-in-Ok-clause-went
returns-in-Ok-clause-went g c tells came all its = λ from h.
    c.take_rest.ensures.went tells came (c.in-Ok.ensures.all tells came all) its from
    (c.take_kept.ensures.went tells came all from h)

pub returns-in-Ok-clause-all : goal.returns-in-Ok-clause-all
returns-in-Ok-clause-all g c tells came all its =
    c.take_rest.ensures.all tells came (c.in-Ok.ensures.all tells came all) its
