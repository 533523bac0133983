use Rattle.std.proofs.Common.{◌-◌, length, min, drop, ap, ◌∙◌, arith}
use Rattle.tree_objects.specs.Stretches.{laid}
use Rattle.tree_objects.proofs.Laid.{laid_in}
use Rattle.tree_objects.proofs.bytes.put_stretch.Goals as goal

pub returns : goal.returns
returns c =
    let bytes = c.args.bytes.now in let stretch = c.args.stretch.now in let from = c.args.from in let whole =
    c.as_slice-written.result.now in
    let skipped = c.min-skipped.ensures ∙ ap (λ n. min n (length whole)) c.saturating_sub.ensures in
    let at = c.min-at.ensures ∙ ap (λ n. min n (length bytes)) c.saturating_sub-2.ensures in
    laid_in bytes whole (stretch.from - from) (from - stretch.from) c.min-at.result c.min-skipped.result
    c.min-count.result _ _ _ skipped at c.min-count.ensures (omega arith) (omega arith) c.copy_from_slice.ensures.after
    ∙ ap (λ b. laid bytes (stretch.from - from) (drop (from - stretch.from) b)) c.as_slice-written.ensures
