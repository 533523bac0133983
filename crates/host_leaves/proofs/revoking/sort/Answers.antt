use Rattle.std.proofs.Common.{ap, get_or, not, sym, ◌∙◌}
use Rattle.token_types.specs.declared.token.TokenId.{TokenId}
use Rattle.host_leaves.specs.Revoking.{sorting}
use Rattle.host_leaves.proofs.Sorting.{sorted_new, sorted_old}
use Rattle.host_leaves.proofs.Steps.{read_same}
use Rattle.host_leaves.proofs.revoking.sort.Goals.{then-is_new+in_ok-sort_one, else-is_new}
use Rattle.host_leaves.proofs.revoking.sort.Goals as goal

pub loop-index-preserved : goal.loop-index-preserved
loop-index-preserved c =
    let m = c.args.tables.now in
    let ids = c.args.ids.now in
    let index = c.loop-index.index in
    let none : TokenId = record { server = record { 0 = 0 }; epoch = 0; seq = 0 } in
    let id = get_or ids index none in
    let low = c.loop-index-test.true in
    let item = read_same ids index none low in
    elim c.if-is_new.branch [
      | then-is_new+in_ok-sort_one w ↦
          w.sorted-is ∙ w.in_ok-sort_one.ensures ∙ ap (λ s. sorting m s id) c.loop-index.invariant
          ∙ sorted_new m ids index id low item (sym c.is_new.ensures ∙ w.if-is_new.true)
      | else-is_new w ↦
          w.sorted-is ∙ c.loop-index.invariant
          ∙ sorted_old m ids index id low item (sym c.is_new.ensures ∙ w.if-is_new.false)
    ]
