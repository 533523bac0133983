use Rattle.token_ranges.proofs.Apart.{next_of}
use Rattle.token_ranges.proofs.Cutting.{cuts_next}
use Rattle.token_ranges.proofs.span_set.left.Goals as goal

pub loop-next-preserved : goal.loop-next-preserved
loop-next-preserved c =
    cuts_next _ _ _ _ _ c.next-item.result _ c.requires.filled
    (rw c.min.ensures at c.in_ok-push_between.ensures.apart)
    (rw c.min.ensures at c.in_ok-push_between.ensures.positions)
    (rw c.max.ensures at c.in_ok-push_between-2.ensures.apart)
    (rw c.max.ensures at c.in_ok-push_between-2.ensures.positions)
    (rw (next_of c.args.spans.now c.next-item.result c.loop-next.next-index c.loop-next-test.true c.next-item.is) at
    c.loop-next.invariant)
