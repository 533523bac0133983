use Rattle.std.proofs.Common.{◌∙◌, refl}
use Rattle.server_node.specs.Laws.{fails_later, stays_on, stays_so}
use Rattle.server_node.proofs.server.ServerNode.settle.Goals as goal

pub loop-init : goal.loop-init
loop-init g c = record {
  ready = c.requires.ready;
  works = (λ part past came lapses so. so);
  inbox = refl;
  gone = (λ tells came all. ((λ from h. h), all));
  stays = stays_so g.S.Store.tells g.S.Store.view c.args.self.now;
}

pub loop-preserved : goal.loop-preserved
loop-preserved g c = record {
  ready = c.in-Ok.ensures.ready;
  works = (λ part past came lapses so.
      c.in-Ok.ensures.works part past came lapses (c.loop.invariant.works part past came lapses so));
  inbox = c.settle_once.ensures.inbox ∙ c.loop.invariant.inbox;
  gone = (λ tells came all.
      let so = c.loop.invariant.gone tells came all in (
        (λ from h. c.settle_once.ensures.went tells came so.1 from (so.0 from h)),
        c.in-Ok.ensures.all tells came so.1,
      ));
  stays = stays_on g.S.Store.tells g.S.Store.view c.args.self.now c.loop.self c.settle_once.new.self
      c.loop.invariant.stays c.settle_once.ensures.stays;
}

pub returns-in-Err-clause-stays : goal.returns-in-Err-clause-stays
returns-in-Err-clause-stays g c =
    stays_on g.S.Store.tells g.S.Store.view c.args.self.now c.loop.self c.settle_once.new.self c.loop.invariant.stays
    c.settle_once.ensures.stays

pub returns-in-Err-clause-failed : goal.returns-in-Err-clause-failed
returns-in-Err-clause-failed g c = λ e.
    fails_later g.S.Store.tells g.S.Store.view c.args.self.now c.loop.self c.settle_once.new.self c.loop.invariant.stays
    (c.settle_once.ensures.failed (c.in-Err.is ∙ e))

pub returns-in-Err-clause-went : goal.returns-in-Err-clause-went
returns-in-Err-clause-went g c tells came all = λ from h.
    let so = c.loop.invariant.gone tells came all in c.settle_once.ensures.went tells came so.1 from (so.0 from h)

pub returns-then-is_rested-clause-went : goal.returns-then-is_rested-clause-went
returns-then-is_rested-clause-went g c tells came all = (c.loop.invariant.gone tells came all).0

pub returns-then-is_rested-clause-all : goal.returns-then-is_rested-clause-all
returns-then-is_rested-clause-all g c tells came all = (c.loop.invariant.gone tells came all).1

pub returns-clause-went : goal.returns-clause-went
returns-clause-went g c tells came all = (c.loop.invariant.gone tells came all).0
