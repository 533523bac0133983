use Rattle.std.proofs.Common.{ap, sym, [], ◌++◌, ◌∙◌, ◌∷◌}
use Rattle.base_types.specs.Spans.{overlap}
use Rattle.base_types.specs.declared.span.Span.{Span}
use Rattle.host_leaves.specs.Dirtying.{common}
use Rattle.host_leaves.proofs.Steps.{behind_no, behind_yes}
use Rattle.host_leaves.proofs.dirtying.push_within.Goals.{then-overlaps+in_ok-push, else-overlaps}
use Rattle.host_leaves.proofs.dirtying.push_within.Goals as goal

pub loop-other-preserved : goal.loop-other-preserved
loop-other-preserved c =
    let both = λ (other : Span). common other c.args.span in
    let test = λ (other : Span). overlap other c.args.span in
    elim c.if-overlaps.branch [
      | then-overlaps+in_ok-push w ↦
          w.out-is ∙ w.in_ok-push.ensures.ok ∙ ap (λ s. c.loop-other.out ++ s ∷ []) w.common.ensures
          ∙ behind_yes c.args.others.now c.loop-other.other-index c.other-item.result c.loop-other-test.true
          c.other-item.is c.args.out.now c.loop-other.out both test
          (sym c.overlaps.ensures ∙ w.if-overlaps.true) c.loop-other.invariant
      | else-overlaps w ↦
          w.out-is
          ∙ behind_no c.args.others.now c.loop-other.other-index c.other-item.result c.loop-other-test.true
          c.other-item.is c.args.out.now c.loop-other.out both test
          (sym c.overlaps.ensures ∙ w.if-overlaps.false) c.loop-other.invariant
    ]
