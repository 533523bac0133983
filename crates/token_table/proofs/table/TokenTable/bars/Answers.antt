use Rattle.std.proofs.Common.{ap, ◌∙◌}
use Rattle.std.specs.List.{list_any}
use Rattle.token_types.specs.Conflicts.{blocks}
use Rattle.token_table.specs.Tables.{of_file}
use Rattle.token_table.proofs.Parting.{any_filtered}
use Rattle.token_table.proofs.table.TokenTable.bars.Goals as goal

pub returns : goal.returns
returns c =
    let test = blocks c.args.host c.args.needs.now in
    let near = c.near.result.now in
    let own = of_file c.self.inside.shelf.tokens c.args.fid in
    c.blocks_any.ensures ∙ any_filtered test near own c.near.ensures
    ∙ ap (λ v. list_any test (of_file v.tokens c.args.fid)) c.self.view_is
