use Rattle.std.proofs.Common.{◌+◌, below_more, arith}
use Rattle.base_outside.proofs.Runs.{then_changes, wider_changes}
use Rattle.disk_layout.proofs.Entries.{stands_below}
use Rattle.disk_layout.proofs.Slots.{then_bodies, wider_bodies}
use Rattle.disk_log.proofs.append.write_entries.Goals as goal

pub returns-in_err-write_entry-clause-crash : goal.returns-in_err-write_entry-clause-crash
returns-in_err-write_entry-clause-crash g c =
    then_changes _ (then_bodies _ _ _) c.loop-i.invariant.changes (wider_changes c.write_entry.ensures.crash (λ a b step. wider_bodies _ _ _ _ a b step (omega arith) (omega arith)))

pub loop-i-preserved : goal.loop-i-preserved
loop-i-preserved g c =
    let inv = c.loop-i.invariant in
    record {
      same = λ told. then_bodies _ _ _ _ _ _ (inv.same told) (wider_bodies _ _ _ _ _ _ (c.write_entry.ensures.same told) (omega arith) (omega arith));
      done = λ told. below_more _ _ (λ k lt. stands_below _ _ _ _ _ (c.write_entry.ensures.same told) (c.args.first + k) _ (omega arith) (inv.done told k lt)) (c.in_ok-write_entry.ensures.written told);
      changes = then_changes _ (then_bodies _ _ _) inv.changes (wider_changes c.write_entry.ensures.crash (λ a b step. wider_bodies _ _ _ _ a b step (omega arith) (omega arith)));
      counted = omega (arith, inv.counted, c.write_entry.ensures.faults.counted);
    }
