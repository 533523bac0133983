use Rattle.std.proofs.Common.{◌∙◌, List, inl, inr, refl, sym, subst}
use Rattle.std.proofs.lemmas.Bool.{false≢true}
use Rattle.std.proofs.lemmas.Result.{on_ok_weaker}
use Rattle.message_types.specs.declared.giving.Reclaimed.{Reclaimed as ReclaimedOf}
use Rattle.run_rules.specs.Past.{In}
use Rattle.server_says.proofs.claiming.add.Goals as goal

pub returns-then-has_answer : goal.returns-then-has_answer
returns-then-has_answer c =
    inl (
      subst (λ (l : List ReclaimedOf). In c.args.answer l) c.as_slice.ensures
          (c.has_answer.ensures.0 c.if-has_answer.true),
      refl,
    )

pub returns : goal.returns
returns c =
    on_ok_weaker c.push.result
    (λ e. inr (
      (λ i. false≢true (sym c.if-has_answer.false ∙ c.has_answer.ensures.1
          (subst (λ (l : List ReclaimedOf). In c.args.answer l) (sym c.as_slice.ensures) i))),
      e,
    )) c.push.ensures.ok
