use Rattle.std.proofs.Common.{◌≡◌, ◌+◌, suc, ◌∷◌, ◌++◌, [], None, ap, sym, ◌∙◌, take, arith}
use Rattle.std.proofs.Math.Seq.{take-suc}
use Rattle.std.proofs.lemmas.List.Elements.{All-take}
use Rattle.token_table.specs.Marks.{note_at, with_note, with_each, without_each}
use Rattle.token_table.proofs.Reading.{with_each_push, undone}
use Rattle.token_table.proofs.notes.Notes.insert_each.Goals as goal

pub returns-in-Err-clause-err : goal.returns-in-Err-clause-err
returns-in-Err-clause-err c =
    let now = c.args.self.now in
    let first = take c.loop-index.index c.args.tokens.now in
    c.remove_each.ensures
    ∙ ap (λ m. without_each m first) (c.in-Err.ensures.err ∙ c.loop-index.invariant)
    ∙ undone now first c.args.note (All-take (λ token. note_at now token.id ≡ None) c.loop-index.index
    c.args.tokens.now c.requires.fresh)

pub loop-index-preserved : goal.loop-index-preserved
loop-index-preserved c =
    let tokens = c.args.tokens.now in
    let i = c.loop-index.index in
    let token = c.index-tokens-index.result in
    let more : take i tokens ++ token ∷ [] ≡ take (i + 1) tokens =
    ap (λ t. take i tokens ++ t ∷ []) c.index-tokens-index.is
    ∙ sym (take-suc tokens i token c.loop-index-test.true)
    ∙ ap (λ n. take n tokens) (let e : suc i ≡ i + 1 = omega arith in e) in
    c.in_default.ensures.after ∙ ap (λ m. with_note m token.id c.args.note) c.loop-index.invariant
    ∙ sym (with_each_push c.args.self.now (take i tokens) token c.args.note)
    ∙ ap (λ ts. with_each c.args.self.now ts c.args.note) more
