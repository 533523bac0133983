use Rattle.std.proofs.Common.{◌≡◌, ◌+◌, ◌++◌, ℕ, [], ◌∷◌, length, take, sym, ap, ◌∙◌, subst, arith}
use Rattle.std.proofs.Math.Seq.{take-length}
use Rattle.std.proofs.lemmas.List.{take_more}
use Rattle.std.proofs.lemmas.List.Elements.{All-push, All-same}
use Rattle.token_types.specs.declared.token.Token.{Token}
use Rattle.host_cache.specs.Holding.{helps, AreAlikeFor}
use Rattle.host_cache.proofs.held.are_alike_for.Goals as goal

pub loop-token-preserved : goal.loop-token-preserved
loop-token-preserved c =
    let tokens = c.args.tokens.now in
    let i = c.loop-token.token-index in
    let token = c.token-item.result in
    let alike : Token → Type 0 = λ t. helps t.kind c.args.one ≡ helps t.kind c.args.other in
    let more : take (i + 1) tokens ≡ take i tokens ++ token ∷ [] =
    take_more tokens i token c.loop-token-test.true ∙ ap (λ t. take i tokens ++ t ∷ []) (sym c.token-item.is) in
    All-same alike (take (i + 1) tokens) (take i tokens ++ token ∷ []) more
    (All-push alike (take i tokens) token c.loop-token.invariant (c.is_alike_for.ensures c.if-not-is_alike_for.false))

pub returns : goal.returns
returns c = λ _.
    let tokens = c.args.tokens.now in
    let end : c.loop-token.token-index ≡ length tokens =
    omega (arith, c.loop-token-test.false, c.loop-token.auto.token-index-end) in
    subst (AreAlikeFor c.args.one c.args.other) (ap (λ (n : ℕ). take n tokens) end ∙ take-length tokens)
    c.loop-token.invariant
