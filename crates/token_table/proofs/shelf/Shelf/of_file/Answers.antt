use Rattle.std.proofs.Common.{ap, ◌∙◌, [], unwrap_or}
use Rattle.std.specs.BTreeMap.{get}
use Rattle.token_table.specs.Places.{file_cmp, file_key}
use Rattle.token_table.specs.Tables.{of_file}
use Rattle.token_table.proofs.shelf.Shelf.of_file.Goals as goal

pub returns-in-Some : goal.returns-in-Some
returns-in-Some c =
    c.as_slice.ensures
    ∙ ap (λ o. unwrap_or o []) (c.in-Some.ensures.value ∙ ap (get file_cmp c.self.inside.files) c.file_key.ensures)
    ∙ c.self.invariant.by_file (file_key c.args.fid)
    ∙ ap (λ v. of_file v.tokens c.args.fid) c.self.view_is

pub returns-in-None : goal.returns-in-None
returns-in-None c =
    ap (λ o. unwrap_or o []) (c.in-None.ensures.value ∙ ap (get file_cmp c.self.inside.files) c.file_key.ensures)
    ∙ c.self.invariant.by_file (file_key c.args.fid)
    ∙ ap (λ v. of_file v.tokens c.args.fid) c.self.view_is
