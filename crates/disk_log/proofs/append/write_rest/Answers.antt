use Rattle.std.proofs.Common.{◌+◌, ◌∙◌, below_more, arith}
use Rattle.base_outside.proofs.Runs.{then_changes, wider_changes}
use Rattle.disk_layout.specs.Places.{entry_start}
use Rattle.disk_layout.proofs.Entries.{stands_under}
use Rattle.disk_layout.proofs.Slots.{then_these, wider_these}
use Rattle.disk_log.proofs.append.write_rest.Goals as goal

pub returns-in_err-write_open-clause-crash : goal.returns-in_err-write_open-clause-crash
returns-in_err-write_open-clause-crash g c =
    then_changes _ (then_these _ _ _) c.loop-i.invariant.changes (wider_changes c.write_open.ensures.crash (λ a b step. wider_these _ _ _ _ a b step (omega arith) (omega arith)))

pub loop-i-preserved : goal.loop-i-preserved
loop-i-preserved g c =
    let inv = c.loop-i.invariant in
    record {
      same = λ told. then_these _ _ _ _ _ _ (inv.same told) (wider_these _ _ _ _ _ _ (c.write_open.ensures.same told) (omega arith) (omega arith));
      done = λ told. below_more _ _ (λ k lt. stands_under _ (c.args.first + k) _ _ (λ j below. (c.write_open.ensures.same told).below j (omega (arith, lt, below))) _ (inv.done told k lt)) (c.in_ok-write_open.ensures.written told);
      opened = λ told. below_more _ _ (λ k lt. (c.write_open.ensures.same told).below (entry_start c.args.half.now.start (c.args.first + k)) (omega (arith, lt)) ∙ inv.opened told k lt) (c.in_ok-write_open.ensures.opened told);
      changes = then_changes _ (then_these _ _ _) inv.changes (wider_changes c.write_open.ensures.crash (λ a b step. wider_these _ _ _ _ a b step (omega arith) (omega arith)));
      counted = omega (arith, inv.counted, c.write_open.ensures.faults.counted);
    }
