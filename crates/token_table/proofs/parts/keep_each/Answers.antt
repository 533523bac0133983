use Rattle.std.proofs.Common.{◌<◌, length, ◌∙◌, ap, arith}
use Rattle.base_types.specs.Lists.{changed_at}
use Rattle.token_table.specs.Parts.{passing}
use Rattle.token_table.specs.Shelves.{keeps}
use Rattle.token_table.proofs.Parting.{mapped_more}
use Rattle.token_table.proofs.parts.keep_each.Goals as goal

pub loop-index-preserved : goal.loop-index-preserved
loop-index-preserved c =
    let test = passing (keeps c.args.server c.args.epoch c.args.kept) in
    let low = c.loop-index-test.true in
    let size = c.len-index-end.ensures in
    let inside : c.loop-index.index < length c.args.parts.now = omega (arith, low, size) in
    c.keep_at.ensures ∙ ap (λ parts. changed_at parts c.loop-index.index test) c.loop-index.invariant
    ∙ mapped_more test c.args.parts.now c.loop-index.index inside
