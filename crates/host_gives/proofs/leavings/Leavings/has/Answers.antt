use Rattle.std.proofs.Common.{List, ap, sym, ◌∙◌}
use Rattle.std.specs.List.{list_any}
use Rattle.token_types.specs.Conflicts.{same_id}
use Rattle.token_types.specs.declared.token.Token.{Token}
use Rattle.host_gives.specs.Leavings.{GiveKey, is_leaving, leaving_in}
use Rattle.host_gives.proofs.Left.{found_here, not_here}
use Rattle.host_gives.proofs.leavings.Leavings.has.Goals as goal

pub loop-tokens-init : goal.loop-tokens-init
loop-tokens-init c = (
  tt,
  tt,
  ap (λ (es : List (GiveKey × List Token)). list_any (is_leaving c.args.id) (leaving_in es)) c.iter-gives.ensures.rest
      ∙ ap (list_any (is_leaving c.args.id)) c.self.view_is,
)

pub returns-then-has_token : goal.returns-then-has_token
returns-then-has_token c =
    sym (found_here c.args.id c.loop-tokens.gives c.next.new.self c.in-Some.field-0-0.now c.in-Some.tokens.now
    c.in-Some.ensures.steps
    (ap (list_any (λ (token : Token). same_id token.id c.args.id)) (sym c.as_slice.ensures) ∙ sym c.has_token.ensures
    ∙ c.if-has_token.true))
    ∙ c.loop-tokens.invariant.2

pub loop-tokens-preserved : goal.loop-tokens-preserved
loop-tokens-preserved c = (
  tt,
  tt,
  sym (not_here c.args.id c.loop-tokens.gives c.next.new.self c.in-Some.field-0-0.now c.in-Some.tokens.now
      c.in-Some.ensures.steps
      (ap (list_any (λ (token : Token). same_id token.id c.args.id)) (sym c.as_slice.ensures) ∙ sym c.has_token.ensures
      ∙ c.if-has_token.false))
      ∙ c.loop-tokens.invariant.2,
)

pub returns : goal.returns
returns c =
    ap (λ (es : List (GiveKey × List Token)). list_any (is_leaving c.args.id) (leaving_in es)) (sym
    c.in_default.ensures.steps.0)
    ∙ c.loop-tokens.invariant.2
