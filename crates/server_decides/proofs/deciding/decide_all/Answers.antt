use Rattle.std.proofs.Common.{sym, subst}
use Rattle.std.specs.Prelude.{IfSome}
use Rattle.store_state.specs.declared.state.StoreState.{StoreState}
use Rattle.server_says.proofs.Chains.{goes_none}
use Rattle.server_decides.specs.Deciding.{Decides, IsDueSo, IsNextDue, NoneDue}
use Rattle.server_decides.specs.Running.{making}
use Rattle.server_decides.proofs.Brings.{decides_brought}
use Rattle.server_decides.proofs.Steps.{decides_more, decides_still, fit_tried, gone_none, gone_tried, none_when}
use Rattle.server_decides.proofs.Steps.{went_asked}
use Rattle.server_decides.proofs.Saying.{says_none, says_then}
use Rattle.server_decides.proofs.Steps.{served_asked}
use Rattle.server_decides.proofs.deciding.decide_all.Goals as goal

pub loop-init : goal.loop-init
loop-init g c = record {
  served = c.requires.served;
  fit = c.requires.fit;
  gone = gone_none (g.S.Store.view c.args.keeper.now.store);
  went = λ tells came all from h. h;
  goes = λ tells. goes_none Decides
      (making c.args.tables.now c.args.draft.now (g.S.Store.view c.args.keeper.now.store).state);
  says = λ sound. says_none c.args.tables.now c.args.draft.now sound;
}

pub loop-preserved : goal.loop-preserved
loop-preserved g c =
    let start = g.S.Store.view c.args.keeper.now.store in
    let old = g.S.Store.view c.loop.keeper.store in
    let mid = g.S.Store.view c.next_due.new.keeper.store in
    let new = g.S.Store.view c.decide.new.keeper.store in
    let asked = c.in_ok-due.ensures.asked in
    let inv = c.loop.invariant in
    let made = c.in_ok-decide.ensures in
    record {
      served = made.served;
      fit = fit_tried _ mid new c.decide.new.keeper.left made.tried;
      gone = gone_tried _ start mid new c.decide.new.keeper.left
          (gone_tried _ start old mid c.next_due.new.keeper.left inv.gone asked.tried) made.tried;
      went = λ tells came all from h. made.went tells came
          (decides_brought came (making c.args.tables.now c.args.draft.now start.state)
          (making c.loop.tables c.loop.draft old.state) (inv.goes tells) all) from
          (went_asked came old mid (asked.state tells) from (inv.went tells came all from h));
      goes = λ tells. decides_more (making c.args.tables.now c.args.draft.now start.state) c.loop.tables
          c.decide.new.tables c.loop.draft c.decide.new.draft old.state mid.state new.state c.in-Some.due
          (asked.state tells) (inv.goes tells)
          (subst (IsNextDue c.loop.tables old.state c.loop.draft.fresh) c.in-Some.is (c.in_ok-due.ensures.due tells))
          (made.decided tells) made.served;
      says = λ sound. let so = inv.says sound in
          says_then c.args.tables.now c.loop.tables c.decide.new.tables c.args.draft.now c.loop.draft
          c.decide.new.draft so (made.says so.sound);
    }

pub decide-requires-clause-due : goal.decide-requires-clause-due
decide-requires-clause-due g c =
    subst (λ o. IfSome o (IsDueSo c.loop.tables.pending)) c.in-Some.is c.in_ok-due.ensures.place

pub decide-requires-clause-served : goal.decide-requires-clause-served
decide-requires-clause-served g c =
    served_asked c.loop.tables (g.S.Store.view c.loop.keeper.store) (g.S.Store.view c.next_due.new.keeper.store)
    c.loop.invariant.served c.in_ok-due.ensures.asked.tried.same

pub returns-in_default-clause-goes : goal.returns-in_default-clause-goes
returns-in_default-clause-goes g c tells =
    decides_still (making c.args.tables.now c.args.draft.now (g.S.Store.view c.args.keeper.now.store).state)
    c.loop.tables c.loop.draft (g.S.Store.view c.loop.keeper.store).state
    (g.S.Store.view c.next_due.new.keeper.store).state (c.in_ok-due.ensures.asked.state tells)
    (c.loop.invariant.goes tells)

pub returns-in_default-clause-none : goal.returns-in_default-clause-none
returns-in_default-clause-none g c tells =
    subst (λ (s : StoreState). NoneDue c.loop.tables s c.loop.draft.fresh c.loop.tables.pending)
    (sym (c.in_ok-due.ensures.asked.state tells))
    (subst (IsNextDue c.loop.tables (g.S.Store.view c.loop.keeper.store).state c.loop.draft.fresh)
    (none_when c.in_ok-due.field-0 c.in_default.not-Some) (c.in_ok-due.ensures.due tells))

pub returns-in_default-clause-served : goal.returns-in_default-clause-served
returns-in_default-clause-served g c =
    served_asked c.loop.tables (g.S.Store.view c.loop.keeper.store) (g.S.Store.view c.next_due.new.keeper.store)
    c.loop.invariant.served c.in_ok-due.ensures.asked.tried.same

pub returns-in_default-clause-says : goal.returns-in_default-clause-says
returns-in_default-clause-says g c sound = c.loop.invariant.says sound

pub returns-in_default-clause-went : goal.returns-in_default-clause-went
returns-in_default-clause-went g c tells came all = λ from h.
    went_asked came (g.S.Store.view c.loop.keeper.store) (g.S.Store.view c.next_due.new.keeper.store)
    (c.in_ok-due.ensures.asked.state tells) from (c.loop.invariant.went tells came all from h)

pub returns-in_err-decide-clause-went : goal.returns-in_err-decide-clause-went
returns-in_err-decide-clause-went g c tells came all = λ from h.
    let old = g.S.Store.view c.loop.keeper.store in
    c.in_err-decide.ensures.went tells came
    (decides_brought came (making c.args.tables.now c.args.draft.now (g.S.Store.view c.args.keeper.now.store).state)
    (making c.loop.tables c.loop.draft old.state) (c.loop.invariant.goes tells) all) from
    (went_asked came old (g.S.Store.view c.next_due.new.keeper.store) (c.in_ok-due.ensures.asked.state tells) from
    (c.loop.invariant.went tells came all from h))
