use Rattle.std.proofs.Common.{◌≡◌, ◌+◌, suc, ◌∷◌, ◌++◌, [], ap, sym, ◌∙◌, take, arith}
use Rattle.std.proofs.Math.Seq.{take-suc}
use Rattle.std.specs.List.{filter}
use Rattle.token_table.specs.Places.{and_token}
use Rattle.token_table.proofs.Shelving.{in_file, and_filtered}
use Rattle.token_table.proofs.shelf.files_of.Goals as goal

pub loop-token-preserved : goal.loop-token-preserved
loop-token-preserved c =
    let tokens = c.args.tokens.now in
    let i = c.loop-token.token-index in
    let token = c.token-item.result in
    let more : take i tokens ++ token ∷ [] ≡ take (i + 1) tokens =
    ap (λ t. take i tokens ++ t ∷ []) c.token-item.is
    ∙ sym (take-suc tokens i token c.loop-token-test.true)
    ∙ ap (λ n. take n tokens) (let e : suc i ≡ i + 1 = omega arith in e) in
    λ key. c.in_ok-put_in_file.ensures.ok key
    ∙ ap (and_token token key) (c.loop-token.invariant key)
    ∙ and_filtered token key (take i tokens)
    ∙ ap (filter (in_file key)) more
