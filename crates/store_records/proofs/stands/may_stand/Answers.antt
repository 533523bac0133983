use Rattle.std.proofs.Common.{sym, subst, ◌∙◌}
use Rattle.std.proofs.lemmas.Bool.{eqb-true, false≢true, not-false}
use Rattle.store_records.specs.Stands.{DidntFit}
use Rattle.store_records.proofs.Fitting.{do_unfit, leave_unfit, part_unfit}
use Rattle.store_records.proofs.Trees.{is_not}
use Rattle.store_records.proofs.Standing.{differs, else_stands, if_ok, stands_storable, MayStand}
use Rattle.store_records.proofs.stands.may_stand.Goals as goal

pub returns-in-Do : goal.returns-in-Do
returns-in-Do c = record {
  stands = λ may.
      stands_storable c.args.act.now c.args.after.now (subst (MayStand c.args.after.now) (sym c.in-Do.is) (c.has_name.ensures.0 may));
  refused = λ no.
      subst (λ act. DidntFit act c.args.after.now) (sym c.in-Do.is)
      (do_unfit c.args.after.now c.in-Do.host c.in-Do.number c.in-Do.call (λ named. is_not c.has_name.result no (c.has_name.ensures.1 named)));
}

pub returns-in-Leave : goal.returns-in-Leave
returns-in-Leave c = record {
  stands = λ may.
      stands_storable c.args.act.now c.args.after.now
      (subst (MayStand c.args.after.now) (sym c.in-Leave.is) (differs c.in-Leave.to.0 c.args.after.now.server.0 (sym c.ne.ensures ∙ may)));
  refused = λ no.
      subst (λ act. DidntFit act c.args.after.now) (sym c.in-Leave.is)
      (leave_unfit c.args.after.now c.in-Leave.fileset c.in-Leave.to (eqb-true c.in-Leave.to.0 c.args.after.now.server.0 (not-false _ (sym c.ne.ensures ∙ no))));
}

pub returns-in-Part : goal.returns-in-Part
returns-in-Part c = record {
  stands = if_ok c.may_come.result _ _ (λ may come is.
      stands_storable c.args.act.now c.args.after.now (subst (MayStand c.args.after.now) (sym c.in-Part.is) (come is))) c.may_come.ensures.come;
  refused = if_ok c.may_come.result _ _ (λ may come no.
      subst (λ act. DidntFit act c.args.after.now) (sym c.in-Part.is)
      (part_unfit c.args.after.now c.in-Part.from c.in-Part.ship c.in-Part.fileset c.in-Part.moves c.in-Part.at c.in-Part.part (come no))) c.may_come.ensures.refused;
}

pub returns-in_default : goal.returns-in_default
returns-in_default c = record {
  stands = λ may. stands_storable c.args.act.now c.args.after.now (else_stands c.args.after.now c.args.act.now c.in_default.not-Do c.in_default.not-Leave c.in_default.not-Part);
  refused = λ no. absurd (false≢true (sym no));
}
