use Rattle.std.proofs.Common.{arith, subst}
use Rattle.std.specs.Prelude.{None}
use Rattle.server_decides.specs.Deciding.{NoneDue}
use Rattle.server_decides.proofs.Steps.{due_so, fit_tried, next_none, none_left, none_when, stayed_asked}
use Rattle.server_decides.proofs.deciding.next_due.Goals as goal

pub loop-at-preserved : goal.loop-at-preserved
loop-at-preserved g c =
    let start = g.S.Store.view c.args.keeper.now.store in
    let old = g.S.Store.view c.loop-at.keeper.store in
    let new = g.S.Store.view c.decision_on.new.keeper.store in
    let x = c.args.tables.now in
    let p = c.pending-item.result in
    let asked = c.in_ok-decision.ensures.asked in
    let inv = c.loop-at.invariant in
    record {
      fit = fit_tried _ old new c.decision_on.new.keeper.left asked.tried;
      stayed = stayed_asked g.S.Store.tells _ start old new c.decision_on.new.keeper.left inv.stayed asked;
      none = λ tells more. next_none x start.state c.args.fresh c.as_slice-pending-items.result.now c.loop-at.at p
          c.loop-at-test.true c.pending-item.is
          (due_so x start.state old.state c.args.fresh p c.is_fresh-is_fresh.result c.in_ok-decision.field-0 None
          (inv.stayed.state tells) c.is_fresh-is_fresh.ensures
          (none_when c.in_ok-decision.field-0 c.in_default.not-Some) (c.in_ok-decision.ensures.due tells))
          (inv.none tells) more;
    }

pub returns-clause-due : goal.returns-clause-due
returns-clause-due g c tells =
    let x = c.args.tables.now in
    let st = (g.S.Store.view c.args.keeper.now.store).state in
    let items = c.as_slice-pending-items.result.now in
    let out = c.loop-at-test.false in
    subst (NoneDue x st c.args.fresh) c.as_slice-pending-items.ensures
    (none_left x st c.args.fresh items c.loop-at.at (omega (arith, out)) (c.loop-at.invariant.none tells))
