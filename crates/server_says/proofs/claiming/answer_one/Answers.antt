use Rattle.std.proofs.Common.{◌≡◌, inl, inr, true, false, refl, subst}
use Rattle.std.proofs.lemmas.Result.{on_ok_weaker}
use Rattle.message_types.specs.declared.giving.Reclaimed.{Reclaimed as ReclaimedOf}
use Rattle.server_says.specs.Claiming.{IsAdded, is_ripe}
use Rattle.server_says.proofs.claiming.answer_one.Goals as goal

pub returns-then-not-is_ripe : goal.returns-then-not-is_ripe
returns-then-not-is_ripe c =
    let out : is_ripe c.args.tables.now c.args.host c.args.claimed.now ≡ false = cc in inl (out, refl)

pub returns : goal.returns
returns c =
    let ripe : is_ripe c.args.tables.now c.args.host c.args.claimed.now ≡ true = cc in
    on_ok_weaker c.add.result
    (λ a. inr (
      ripe,
      subst (λ (z : ReclaimedOf). IsAdded z c.args.answers.now c.add.new.answers)
          c.in_ok-answer.ensures a,
    )) c.add.ensures
