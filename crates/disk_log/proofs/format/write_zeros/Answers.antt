use Rattle.std.proofs.Common.{◌∙◌, arith}
use Rattle.base_outside.proofs.Runs.{then_changes, wider_changes}
use Rattle.disk_log.proofs.Formatting.{then_around, around_wider, zeros_more}
use Rattle.disk_log.proofs.format.write_zeros.Goals as goal

pub returns-in_err-write_zero-clause-crash : goal.returns-in_err-write_zero-clause-crash
returns-in_err-write_zero-clause-crash g c =
    then_changes _ (then_around _) c.loop-page.invariant.changes (wider_changes c.write_zero.ensures.crash (λ a b same. around_wider _ _ a b (omega arith) same))

pub loop-page-preserved : goal.loop-page-preserved
loop-page-preserved g c =
    let inv = c.loop-page.invariant in
    record {
      done = λ told. zeros_more c.loop-page.page _ _ (c.write_zero.ensures.others told) (c.in_ok-write_zero.ensures.written told) (inv.done told);
      same = λ told at lt. c.write_zero.ensures.same told at lt ∙ inv.same told at lt;
      changes = then_changes _ (then_around _) inv.changes (wider_changes c.write_zero.ensures.crash (λ a b same. around_wider _ _ a b (omega arith) same));
      counted = omega (arith, inv.counted, c.write_zero.ensures.faults.counted);
    }
