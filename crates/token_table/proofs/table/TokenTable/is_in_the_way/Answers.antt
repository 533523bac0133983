use Rattle.std.proofs.Common.{ap, sym, ◌∙◌}
use Rattle.std.specs.List.{list_any}
use Rattle.token_types.specs.Conflicts.{blocks}
use Rattle.token_table.proofs.Nearby.{near_any, near_end, found_near}
use Rattle.token_table.proofs.table.TokenTable.is_in_the_way.Goals as goal

pub returns-then-bars : goal.returns-then-bars
returns-then-bars c =
    let test = blocks c.args.host c.args.needs.now in
    let now = c.args.self.now.tokens in
    let fresh = sym c.names_file.ensures ∙ c.if-not-names_file.true in
    let here = sym c.bars.ensures ∙ c.if-bars.true in
    sym (found_near test now c.args.needs.now c.loop-index.index c.index-needs-index.result c.loop-index-test.true
    (sym c.index-needs-index.is) fresh here)
    ∙ sym c.loop-index.invariant ∙ near_any c.args.host c.args.needs.now now

pub returns : goal.returns
returns c =
    let test = blocks c.args.host c.args.needs.now in
    let now = c.args.self.now.tokens in
    ap (list_any test) (sym (near_end now c.args.needs.now c.loop-index.index c.loop-index-test.false))
    ∙ sym c.loop-index.invariant ∙ near_any c.args.host c.args.needs.now now
