use Rattle.std.proofs.Common.{[], ◌+◌, ap, sym, ◌∙◌, take, drop, is_some}
use Rattle.std.specs.List.{find}
use Rattle.token_table.specs.Tables.{near, of_file}
use Rattle.token_table.proofs.Nearby.{near_fresh, find_first, find_second, copied_some}
use Rattle.token_manager.specs.Grants.{is_pinned_ahead}
use Rattle.token_manager.proofs.grants.Grants.pinned_in_the_way.Goals as goal

pub returns-then-is_some : goal.returns-then-is_some
returns-then-is_some c =
    let test = is_pinned_ahead c.args.self.now.notes c.args.want.now in
    let tokens = c.args.self.now.table.tokens in
    let needs = c.as_slice-needs.result.now in
    let i = c.loop-index.index in
    let need = c.index-needs-index.result in
    let found = c.first_pinned-pinned.ensures ∙ ap (find test) c.of_file.ensures in
    let some = ap is_some (sym found) ∙ copied_some c.first_pinned-pinned.result ∙ sym c.is_some.ensures ∙
    c.if-is_some.true in
    let next = near_fresh tokens needs i need c.loop-index-test.true (sym c.index-needs-index.is)
    (sym c.names_file.ensures ∙ c.if-names_file.false) in
    found
    ∙ sym (find_first test (of_file tokens need.fid) (near tokens (take (i + 1) needs) (drop (i + 1) needs)) some)
    ∙ ap (find test) (sym next) ∙ sym c.loop-index.invariant
    ∙ ap (λ ns. find test (near tokens [] ns)) c.as_slice-needs.ensures

pub loop-index-preserved : goal.loop-index-preserved
loop-index-preserved c =
    let test = is_pinned_ahead c.args.self.now.notes c.args.want.now in
    let tokens = c.args.self.now.table.tokens in
    let needs = c.as_slice-needs.result.now in
    let i = c.loop-index.index in
    let need = c.index-needs-index.result in
    let found = c.first_pinned-pinned.ensures ∙ ap (find test) c.of_file.ensures in
    let none = ap is_some (sym found) ∙ copied_some c.first_pinned-pinned.result ∙ sym c.is_some.ensures ∙
    c.if-is_some.false in
    let next = near_fresh tokens needs i need c.loop-index-test.true (sym c.index-needs-index.is)
    (sym c.names_file.ensures ∙ c.if-names_file.false) in
    c.loop-index.invariant ∙ ap (find test) next
    ∙ find_second test (of_file tokens need.fid) (near tokens (take (i + 1) needs) (drop (i + 1) needs)) none
