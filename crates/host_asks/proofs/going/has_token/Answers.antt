use Rattle.std.proofs.Common.{refl, subst, sym}
use Rattle.run_rules.specs.Past.{In}
use Rattle.host_leaves.proofs.Steps.{item_in, take_whole}
use Rattle.token_types.specs.declared.token.Token.{Token}
use Rattle.host_asks.proofs.Gone.{both_not, not_next}
use Rattle.host_asks.proofs.going.has_token.Goals as goal

pub returns-then-is_same : goal.returns-then-is_same
returns-then-is_same c = (
  λ t. subst (λ (x : Token). In x c.args.tokens.now) (c.is_same.ensures.0 c.if-is_same.true)
      (item_in c.args.tokens.now c.loop-other.other-index c.other-item.result c.loop-other-test.true c.other-item.is),
  λ i. refl,
)

pub loop-other-init : goal.loop-other-init
loop-other-init c i = i

pub loop-other-preserved : goal.loop-other-preserved
loop-other-preserved c =
    not_next c.args.tokens.now c.loop-other.other-index c.other-item.result c.args.token.now c.loop-other-test.true
    c.other-item.is c.loop-other.invariant (λ e. both_not c.is_same.result (c.is_same.ensures.1 e) c.if-is_same.false)

pub returns : goal.returns
returns c = (
  λ t. absurd (cc),
  λ i. absurd (c.loop-other.invariant (subst (In c.args.token.now)
      (sym (take_whole c.args.tokens.now c.loop-other.other-index c.loop-other-test.false)) i)),
)
