use Rattle.std.proofs.Common.{◌≡◌, ◌+◌, suc, ◌∷◌, ap, sym, subst, ◌∙◌, drop, arith}
use Rattle.std.proofs.Math.Seq.{drop-cons}
use Rattle.token_manager.specs.Grants.{CanClaim, with_claims}
use Rattle.token_manager.proofs.Lawful.{can_later}
use Rattle.token_manager.proofs.grants.Grants.admit.Goals as goal

pub loop-token-preserved : goal.loop-token-preserved
loop-token-preserved c =
    let tokens = c.args.tokens.now in
    let i = c.loop-token.token-index in
    let grants = c.loop-token.grants in
    let token = c.token-item.result in
    let after = c.in_ok-claim.ensures.after in
    let cut : drop i tokens ≡ token ∷ drop (i + 1) tokens =
    drop-cons tokens i token c.loop-token-test.true
    ∙ (λ j. sym c.token-item.is j ∷ drop (let e : suc i ≡ i + 1 = omega arith in e j) tokens) in (
      (λ other can. subst (λ g. CanClaim g other) (sym after)
          (can_later grants token other (c.loop-token.invariant.0 other can))),
      ap (λ g. with_claims g (drop (i + 1) tokens)) after ∙ ap (with_claims grants) (sym cut)
          ∙ c.loop-token.invariant.1,
    )
