use Rattle.std.proofs.lemmas.List.{drop_all}
use Rattle.token_ranges.proofs.Apart.{next_of}
use Rattle.token_ranges.proofs.Missing.{finds_gap, last_gap, last_apart}
use Rattle.token_ranges.proofs.span_set.gaps.Goals as goal

pub loop-next-preserved : goal.loop-next-preserved
loop-next-preserved c =
    rw c.max-at.ensures (finds_gap _ _ _ _ _ c.next-item.result _
    (rw c.min.ensures at c.in_ok-push_between.ensures.apart)
    (rw c.min.ensures at c.in_ok-push_between.ensures.positions)
    (rw (next_of c.args.spans.now c.next-item.result c.loop-next.next-index c.loop-next-test.true c.next-item.is) at
    c.loop-next.invariant))

pub returns : goal.returns
returns c =
    let none = drop_all c.loop-next.next-index c.args.spans.now c.loop-next-test.false in
    record {
      apart = last_apart _ _ _ _ _ _ c.in_ok-push_between-2.ensures.apart c.loop-next.invariant;
      positions = last_gap _ _ _ _ _ c.in_ok-push_between-2.ensures.positions (rw none at c.loop-next.invariant);
    }
