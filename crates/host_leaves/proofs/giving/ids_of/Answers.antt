use Rattle.std.proofs.Common.{ap, [], ◌++◌, ◌∙◌, ◌∷◌}
use Rattle.token_types.specs.declared.token.Token.{Token}
use Rattle.host_leaves.proofs.Steps.{map_next}
use Rattle.host_leaves.proofs.giving.ids_of.Goals as goal

pub loop-token-preserved : goal.loop-token-preserved
loop-token-preserved c =
    c.in_ok-push.ensures.ok
    ∙ ap (λ ids. ids ++ c.token-item.result.id ∷ []) c.loop-token.invariant
    ∙ map_next c.args.tokens.now c.loop-token.token-index c.token-item.result c.loop-token-test.true c.token-item.is
    (λ (token : Token). token.id)
