use Rattle.std.proofs.Common.{ap, ◌∙◌, [], unwrap_or}
use Rattle.std.specs.List.{filter}
use Rattle.std.specs.BTreeMap.{get}
use Rattle.token_types.specs.Conflicts.{blocks}
use Rattle.token_table.specs.Places.{file_cmp, file_key}
use Rattle.token_table.specs.Tables.{of_file}
use Rattle.token_table.proofs.shelf.Shelf.near.Goals as goal

pub returns-in-Some : goal.returns-in-Some
returns-in-Some c =
    let those = filter (blocks c.args.host c.args.needs.now) in
    c.near.ensures
    ∙ ap (λ o. those (unwrap_or o []))
    (c.in-Some.ensures.value ∙ ap (get file_cmp c.self.inside.files) c.file_key.ensures)
    ∙ ap those (c.self.invariant.by_file (file_key c.args.fid) ∙ ap (λ v. of_file v.tokens c.args.fid) c.self.view_is)

pub returns-in-None : goal.returns-in-None
returns-in-None c =
    let those = filter (blocks c.args.host c.args.needs.now) in
    ap (λ o. those (unwrap_or o []))
    (c.in-None.ensures.value ∙ ap (get file_cmp c.self.inside.files) c.file_key.ensures)
    ∙ ap those (c.self.invariant.by_file (file_key c.args.fid) ∙ ap (λ v. of_file v.tokens c.args.fid) c.self.view_is)
