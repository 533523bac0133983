use Rattle.std.proofs.Common.{◌≡◌, ◌<◌, ◌-◌, suc, length, drop, ap, sym, ◌∙◌, arith}
use Rattle.token_types.specs.declared.token.Token.{Token}
use Rattle.host_cache.specs.Holding.{brought, brought_all}
use Rattle.host_cache.proofs.Using.{brought_next}
use Rattle.host_cache.proofs.recent.promote_all.Goals as goal

pub loop-index-preserved : goal.loop-index-preserved
loop-index-preserved c =
    let tokens = c.args.tokens.now in
    let old = c.args.order.now in
    let i = c.loop-index.index - 1 in
    let token = c.index-tokens-index.result in
    let e : c.loop-index.index ≡ suc i = omega (arith, c.loop-index-test.true) in
    let lt : i < length tokens = omega (arith, c.loop-index-test.true, c.loop-index.auto.index) in
    c.promote.ensures
    ∙ ap (λ (t : Token). brought t.id c.loop-index.order) (sym c.index-tokens-index.is)
    ∙ ap (brought token.id) (c.loop-index.invariant ∙ ap (λ k. brought_all (drop k tokens) old) e)
    ∙ sym (brought_next tokens old i token lt c.index-tokens-index.is)
