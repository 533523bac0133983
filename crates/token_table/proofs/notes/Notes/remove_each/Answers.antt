use Rattle.std.proofs.Common.{◌≡◌, ◌+◌, suc, ◌∷◌, ◌++◌, [], ap, sym, ◌∙◌, take, arith}
use Rattle.std.proofs.Math.Seq.{take-suc}
use Rattle.token_table.specs.Marks.{without_note, without_each}
use Rattle.token_table.proofs.Reading.{without_each_push}
use Rattle.token_table.proofs.notes.Notes.remove_each.Goals as goal

pub loop-token-preserved : goal.loop-token-preserved
loop-token-preserved c =
    let tokens = c.args.tokens.now in
    let i = c.loop-token.token-index in
    let token = c.token-item.result in
    let more : take i tokens ++ token ∷ [] ≡ take (i + 1) tokens =
    ap (λ t. take i tokens ++ t ∷ []) c.token-item.is
    ∙ sym (take-suc tokens i token c.loop-token-test.true)
    ∙ ap (λ n. take n tokens) (let e : suc i ≡ i + 1 = omega arith in e) in
    c.remove.ensures ∙ ap (λ m. without_note m token.id) c.loop-token.invariant
    ∙ sym (without_each_push c.args.self.now (take i tokens) token)
    ∙ ap (without_each c.args.self.now) more
