use Rattle.std.proofs.Common.{List, sym, subst}
use Rattle.std.specs.Prelude.{All, Option}
use Rattle.run_rules.specs.declared.applied.Admission.{Admission}
use Rattle.server_takes.specs.Taking.{made}
use Rattle.token_manager.specs.Grants.{CanClaim}
use Rattle.token_types.specs.declared.token.Token.{Token}
use Rattle.server_says.specs.Claiming.{AdmitsOne, IsAdmissionOf, IsNextAdmission}
use Rattle.server_says.proofs.Chains.{goes_more, goes_none}
use Rattle.server_says.proofs.Picks.{admits_less, can_admit}
use Rattle.server_says.proofs.claiming.admit_all.Goals as goal

pub loop-admission-init : goal.loop-admission-init
loop-admission-init c = record {
  goes = goes_none AdmitsOne (made c.args.tables.now c.args.draft.now);
  counted = c.requires.counted;
}

pub admit-requires : goal.admit-requires
admit-requires c =
    let t = c.loop-admission.tables in
    let next : IsAdmissionOf t c.in-Some.admission =
    subst (λ (o : Option Admission). IsNextAdmission t o) c.in-Some.is c.in_ok-admission.ensures in
    record {
      counted = c.loop-admission.invariant.counted;
      can = subst (λ (ts : List Token). All (CanClaim t.tokens.grants) ts) (sym next.tokens)
          (can_admit t next.claimed next.past);
    }

pub loop-admission-preserved : goal.loop-admission-preserved
loop-admission-preserved c =
    let next : IsAdmissionOf c.loop-admission.tables c.in-Some.admission =
    subst (λ (o : Option Admission). IsNextAdmission c.loop-admission.tables o) c.in-Some.is
    c.in_ok-admission.ensures in
    record {
      goes = goes_more AdmitsOne (made c.args.tables.now c.args.draft.now)
          (made c.loop-admission.tables c.loop-admission.draft) (made c.admit.new.tables c.admit.new.draft)
          c.loop-admission.invariant.goes
          (record { admission = c.in-Some.admission; next = next; so = c.in_ok-admit.ensures.admitted });
      counted = c.in_ok-admit.ensures.counted;
    }

pub loop-admission-smaller : goal.loop-admission-smaller
loop-admission-smaller c =
    let next : IsAdmissionOf c.loop-admission.tables c.in-Some.admission =
    subst (λ (o : Option Admission). IsNextAdmission c.loop-admission.tables o) c.in-Some.is
    c.in_ok-admission.ensures in
    admits_less c.loop-admission.tables c.admit.new.tables c.loop-admission.draft c.admit.new.draft
    c.in-Some.admission next c.in_ok-admit.ensures.admitted
