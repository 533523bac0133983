use Rattle.std.proofs.Common.{◌++◌, sym, ap, ◌∙◌, take}
use Rattle.token_table.proofs.Shelving.{place_here, place_later}
use Rattle.token_table.proofs.shelf.index_of_place.Goals as goal

pub returns-then-not-comes_before-clause-placed : goal.returns-then-not-comes_before-clause-placed
returns-then-not-comes_before-clause-placed c =
    let behind = sym c.comes_before.ensures ∙ c.if-not-comes_before.true in
    ap (λ l. take c.loop-index.index c.args.tokens.now ++ l)
    (sym (place_here c.args.server c.args.epoch c.args.token.now c.index-tokens-index.result c.args.tokens.now
    c.loop-index.index c.loop-index-test.true c.index-tokens-index.is behind))
    ∙ c.loop-index.invariant

pub loop-index-preserved : goal.loop-index-preserved
loop-index-preserved c =
    let before = sym c.comes_before.ensures ∙ c.if-not-comes_before.false in
    place_later c.args.server c.args.epoch c.args.token.now c.index-tokens-index.result c.args.tokens.now
    c.loop-index.index c.loop-index-test.true c.index-tokens-index.is before
    ∙ c.loop-index.invariant
