use Rattle.std.proofs.Common.{refl, ◌≡◌, [], ◌∷◌, ◌++◌, cond, ap, sym, ◌∙◌, unwrap_or, Some, None}
use Rattle.std.proofs.lemmas.Map.Steps.{set_value_same}
use Rattle.std.specs.Map.{lookup}
use Rattle.std.specs.BTreeMap.{is_at, get}
use Rattle.token_table.specs.Places.{file_cmp, file_key, placed}
use Rattle.token_table.proofs.Placing.{always_on_err, put_first}
use Rattle.token_table.proofs.shelf.place_in_file.Goals as goal

pub returns-in_err-put_placed-clause-err : goal.returns-in_err-put_placed-clause-err
returns-in_err-put_placed-clause-err c =
    let wrote = c.get_mut.follows.holds c.put_placed.new.tokens in
    let was = sym c.in-Some.ensures.value ∙ ap Some (sym c.in_err-put_placed.ensures.err) in
    let same = wrote.0 ∙ set_value_same (is_at (file_cmp c.file_key-key.result)) c.args.files.now.entries
    c.put_placed.new.tokens was in
    always_on_err c.from_residual.result (λ key. ap (λ es. unwrap_or (lookup (is_at (file_cmp key)) es) []) same)

pub returns-clause-ok : goal.returns-clause-ok
returns-clause-ok c =
    let none : get file_cmp c.args.files.now (file_key c.args.token.fid) ≡ None =
    ap (get file_cmp c.args.files.now) (sym c.file_key-key.ensures) ∙ sym c.in_default.ensures.value in
    let first = c.in_ok-push.ensures.ok ∙ ap (λ tokens. tokens ++ c.args.token ∷ []) c.new-tokens.ensures in
    put_first c.args.files.now c.insert.new.self c.args.token (placed c.args.server c.args.epoch c.args.token) refl none
    (λ key.
    c.in_ok-insert.ensures.updates.0 key
    ∙ (λ i. cond (is_at (file_cmp (c.file_key-key.ensures i)) key) (Some (first i))
    (get file_cmp (c.get_mut.follows.holds-at-none i) key)))
