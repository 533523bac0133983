use Rattle.std.proofs.Common.{◌≡◌, ◌++◌, drop, map}
use Rattle.tree_answers.specs.Losses.{span_loss}
use Rattle.tree_answers.proofs.losses.push_span_losses.Given as goal

-- the losses so far, and those of the spans that are left
abbrev pub invariant-loop-span : goal.invariant-loop-span
invariant-loop-span l =
    l.losses ++ map (span_loss l.down.host l.down.server l.path) (drop l.span-index l.span-items)
    ≡ l.fn.losses ++ map (span_loss l.down.host l.down.server l.path) l.spans
