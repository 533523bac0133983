use Rattle.std.proofs.Common.{ap, sym, ◌∙◌, List, [], ◌∷◌, ◌++◌, append_assoc, append-nil}
use Rattle.std.specs.Map.{values_of}
use Rattle.token_types.specs.declared.token.Token.{Token}
use Rattle.host_cache.specs.declared.held.Held.{Held}
use Rattle.host_cache.specs.Holding.{tokens_of}
use Rattle.host_cache.specs.Keys.{IdKey}
use Rattle.host_cache.proofs.order.Order.tokens.Goals as goal

pub loop-held-init : goal.loop-held-init
loop-held-init c = (
  tt,
  tt,
  ap (λ (l : List Token). l ++ tokens_of (values_of c.iter-entries.result)) c.new-tokens.ensures
      ∙ ap (λ (es : List (IdKey × Held)). tokens_of (values_of es)) c.iter-entries.ensures.rest
      ∙ ap tokens_of c.self.view_is,
)

pub loop-held-preserved : goal.loop-held-preserved
loop-held-preserved c =
    let left = tokens_of (values_of c.next.new.self) in
    let token = c.in-Some.held.now.token in (
      tt,
      tt,
      ap (λ (l : List Token). l ++ left) c.in_ok-push.ensures.ok ∙ append_assoc c.loop-held.tokens (token ∷ []) left
          ∙ ap (λ (es : List (IdKey × Held)). c.loop-held.tokens ++ tokens_of (values_of es)) (sym
          c.in-Some.ensures.steps)
          ∙ c.loop-held.invariant.2,
    )

pub returns : goal.returns
returns c =
    sym (append-nil c.loop-held.tokens)
    ∙ ap (λ (es : List (IdKey × Held)). c.loop-held.tokens ++ tokens_of (values_of es)) (sym
    c.in_default.ensures.steps.0)
    ∙ c.loop-held.invariant.2
