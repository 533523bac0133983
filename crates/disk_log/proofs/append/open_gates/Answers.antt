use Rattle.std.proofs.Common.{◌+◌, ◌∙◌, below_more, arith}
use Rattle.base_outside.proofs.Runs.{then_changes, wider_changes}
use Rattle.disk_layout.specs.Places.{entry_start}
use Rattle.disk_layout.proofs.Slots.{then_gates, wider_gates}
use Rattle.disk_log.proofs.append.open_gates.Goals as goal

pub returns-in_err-open_gate-clause-crash : goal.returns-in_err-open_gate-clause-crash
returns-in_err-open_gate-clause-crash g c =
    then_changes _ (then_gates _ _ _) c.loop-i.invariant.changes (wider_changes c.open_gate.ensures.crash (λ a b step. wider_gates _ _ _ _ a b step (omega arith) (omega arith)))

pub loop-i-preserved : goal.loop-i-preserved
loop-i-preserved g c =
    let inv = c.loop-i.invariant in
    record {
      same = λ told. then_gates _ _ _ _ _ _ (inv.same told) (wider_gates _ _ _ _ _ _ (c.open_gate.ensures.same told) (omega arith) (omega arith));
      done = λ told. below_more _ _ (λ k lt. (c.open_gate.ensures.same told).below (entry_start c.args.half.now.start (c.args.first + k)) (omega arith) ∙ inv.done told k lt) (c.in_ok-open_gate.ensures.opened told);
      changes = then_changes _ (then_gates _ _ _) inv.changes (wider_changes c.open_gate.ensures.crash (λ a b step. wider_gates _ _ _ _ a b step (omega arith) (omega arith)));
      counted = omega (arith, inv.counted, c.open_gate.ensures.faults.counted);
    }
