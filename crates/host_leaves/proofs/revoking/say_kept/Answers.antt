use Rattle.std.proofs.Common.{ap, sym, ◌∙◌}
use Rattle.host_leaves.specs.Revoking.{keeping_file}
use Rattle.host_leaves.proofs.Sorting.{kept_new, kept_old}
use Rattle.host_leaves.proofs.revoking.say_kept.Goals.{then-is_first+in_ok-say_kept_of, else-is_first}
use Rattle.host_leaves.proofs.revoking.say_kept.Goals as goal

pub loop-index-preserved : goal.loop-index-preserved
loop-index-preserved c =
    let m = c.args.tables.now in
    elim c.if-is_first.branch [
      | then-is_first+in_ok-say_kept_of w ↦
          w.draft-is ∙ w.in_ok-say_kept_of.ensures
          ∙ ap (λ d. keeping_file m c.args.tokens.now d c.index-tokens-index.result.fid) c.loop-index.invariant
          ∙ kept_new m c.args.tokens.now c.loop-index.index c.index-tokens-index.result c.loop-index-test.true
          c.index-tokens-index.is c.args.draft.now (sym c.is_first.ensures ∙ w.if-is_first.true)
      | else-is_first w ↦
          w.draft-is ∙ c.loop-index.invariant
          ∙ kept_old m c.args.tokens.now c.loop-index.index c.index-tokens-index.result c.loop-index-test.true
          c.index-tokens-index.is c.args.draft.now (sym c.is_first.ensures ∙ w.if-is_first.false)
    ]
