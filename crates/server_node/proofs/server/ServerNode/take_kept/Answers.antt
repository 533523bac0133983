use Rattle.std.proofs.Common.{◌≡◌, ◌∙◌, ◌++◌, ap, sym, subst, List}
use Rattle.message_types.specs.declared.message.Message.{Message}
use Rattle.message_types.specs.Soundness.{Each}
use Rattle.server_exporter.specs.Keepers.{IsDoneFor}
use Rattle.store_acts.specs.declared.act.Act.{Act}
use Rattle.server_node.proofs.Kept.{rest_theirs, some_of}
use Rattle.server_node.proofs.Turns.{all_ok, gathers_none, none_wait, stored_end, theirs_still}
use Rattle.server_node.specs.Laws.{fails_later, stays_on, stays_so}
use Rattle.server_node.specs.Standing.{HasAllOf, latest_first}
use Rattle.server_node.specs.declared.server.ServerNode.{ServerNode}
use Rattle.server_node.proofs.server.ServerNode.take_kept.Goals as goal

pub loop-self-init : goal.loop-self-init
loop-self-init g c = record {
  ready = c.requires.ready;
  rested = c.requires.rested;
  theirs = c.requires.theirs;
  gives = none_wait (g.S.Store.view c.args.self.now.keeper.store).state c.new-waiting.result c.new-waiting.ensures;
  works = (λ part past came lapses so. gathers_none g.S.Store.tells g.S.Store.view part c.args.self.now past
      c.args.steps.now.steps c.args.self.now c.new-waiting.result c.args.steps.now.steps
      (came ++ latest_first c.args.self.now.inbox) lapses c.new-waiting.ensures so);
  gone = (λ tells came all. (
    (λ from h. h),
    all,
    subst (λ (l : List Act). Each (IsDoneFor came) l) (sym c.new-waiting.ensures) tt,
  ));
  stays = stays_so g.S.Store.tells g.S.Store.view c.args.self.now;
}

pub loop-self-preserved : goal.loop-self-preserved
loop-self-preserved g c = record {
  ready = c.in-Ok.ensures.ready;
  rested = c.in-Ok.ensures.rested;
  theirs = theirs_still g.S.Store.tells g.S.Store.view c.loop-self.self c.gather_next.new.self
      c.gather_next.new.self.inbox
      c.loop-self.invariant.ready c.in-Ok.ensures.ready c.gather_next.ensures.stays
      (rest_theirs c.loop-self.self.exporter.tables c.loop-self.self.inbox c.gather_next.new.self.inbox
      c.in-Ok.ensures.inbox
      c.loop-self.invariant.theirs);
  gives = c.in-Ok.ensures.gives;
  works = (λ part past came lapses so. let now = c.loop-self.invariant.works part past came lapses so in
      c.in-Ok.ensures.works part past came lapses now.0 now.1);
  gone = (λ tells came all.
      let so = c.loop-self.invariant.gone tells came all in (
        (λ from h. c.gather_next.ensures.went tells came so.1 so.2 from (so.0 from h)),
        c.in-Ok.ensures.all tells came so.1 so.2,
        c.in-Ok.ensures.done_for came so.1.1 so.2,
      ));
  stays = stays_on g.S.Store.tells g.S.Store.view c.args.self.now c.loop-self.self c.gather_next.new.self
      c.loop-self.invariant.stays c.gather_next.ensures.stays;
}

pub gather_next-requires-clause-some : goal.gather_next-requires-clause-some
gather_next-requires-clause-some g c = some_of c.loop-self.self.inbox
    (λ e. let is = c.is_empty.ensures.1 e in let no = c.loop-self-test.true in absurd (cc))

pub returns-in-Err-clause-stays : goal.returns-in-Err-clause-stays
returns-in-Err-clause-stays g c =
    stays_on g.S.Store.tells g.S.Store.view c.args.self.now c.loop-self.self c.gather_next.new.self
    c.loop-self.invariant.stays c.gather_next.ensures.stays

pub returns-in-Err-clause-failed : goal.returns-in-Err-clause-failed
returns-in-Err-clause-failed g c = λ e.
    fails_later g.S.Store.tells g.S.Store.view c.args.self.now c.loop-self.self c.gather_next.new.self
    c.loop-self.invariant.stays (c.gather_next.ensures.failed (c.in-Err.is ∙ e))

pub returns-clause-rested : goal.returns-clause-rested
returns-clause-rested g c =
    all_ok c.store.result
    (ap (λ (z : ServerNode g.row.S.Denot). z.exporter.rested) c.store.ensures.rest ∙ c.loop-self.invariant.rested)

pub returns-clause-inbox : goal.returns-clause-inbox
returns-clause-inbox g c =
    let none = c.is_empty.ensures.0 c.loop-self-test.false in
    all_ok c.store.result (ap (λ (z : ServerNode g.row.S.Denot). z.inbox) c.store.ensures.rest ∙ none)

pub returns-clause-works : goal.returns-clause-works
returns-clause-works g c = λ part past came lapses so.
    let none = c.is_empty.ensures.0 c.loop-self-test.false in
    stored_end g.S.Store.tells g.S.Store.view part c.loop-self.self past c.loop-self.steps.steps c.store.result
    c.store.new.self c.loop-self.waiting came lapses c.store.ensures.rest none c.store.ensures.state
    (c.loop-self.invariant.works part past came lapses so)

pub returns-clause-stays : goal.returns-clause-stays
returns-clause-stays g c =
    stays_on g.S.Store.tells g.S.Store.view c.args.self.now c.loop-self.self c.store.new.self
    c.loop-self.invariant.stays c.store.ensures.stays

pub returns-clause-failed : goal.returns-clause-failed
returns-clause-failed g c = λ e.
    fails_later g.S.Store.tells g.S.Store.view c.args.self.now c.loop-self.self c.store.new.self
    c.loop-self.invariant.stays (c.store.ensures.failed e)

pub returns-in-Err-clause-went : goal.returns-in-Err-clause-went
returns-in-Err-clause-went g c tells came all = λ from h.
    let so = c.loop-self.invariant.gone tells came all in
    c.gather_next.ensures.went tells came so.1 so.2 from (so.0 from h)

pub returns-clause-went : goal.returns-clause-went
returns-clause-went g c tells came all = λ from h.
    let so = c.loop-self.invariant.gone tells came all in c.store.ensures.went tells came so.2 from (so.0 from h)

pub returns-clause-all : goal.returns-clause-all
returns-clause-all g c tells came all =
    let so = c.loop-self.invariant.gone tells came all in
    all_ok c.store.result
    (subst (λ (z : ServerNode g.row.S.Denot). HasAllOf came z) (sym c.store.ensures.rest) so.1)
