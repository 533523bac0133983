use Rattle.std.proofs.Common.{◌≡◌, length, arith}
use Rattle.std.proofs.lemmas.Result.{on_ok_weaker}
use Rattle.base_outside.proofs.Runs.{then_changes, wider_changes}
use Rattle.disk_log.proofs.Formatting.{headers_written, headers_beside, then_around, torn_around, both_ok}
use Rattle.disk_log.proofs.format.write_headers.Goals as goal

pub returns-in_err-write_at-clause-crash : goal.returns-in_err-write_at-clause-crash
returns-in_err-write_at-clause-crash g c =
    let size : length c.put_u64.new.bytes ≡ 8 = omega arith in
    then_changes _ (then_around 6292992) c.set_gate.ensures.crash
    (wider_changes c.write_at.ensures.crash (λ a b torn. torn_around _ _ 6292992 a b torn (omega arith) (omega (arith, size))))

pub returns-clause-crash : goal.returns-clause-crash
returns-clause-crash g c =
    let size : length c.put_u64.new.bytes ≡ 8 = omega arith in
    then_changes _ (then_around 6292992)
    (then_changes _ (then_around 6292992) c.set_gate.ensures.crash
    (wider_changes c.write_at.ensures.crash (λ a b torn. torn_around _ _ 6292992 a b torn (omega arith) (omega (arith, size))))) c.set_gate-2.ensures.crash

pub returns-clause-same : goal.returns-clause-same
returns-clause-same g c = λ told.
    let size : length c.put_u64.new.bytes ≡ 8 = omega arith in
    on_ok_weaker c.set_gate-2.result (λ torn. headers_beside _ _ _ _ _ size (c.in_ok-set_gate.ensures.torn told) (c.write_at.ensures.torn told) torn) (c.set_gate-2.ensures.torn told)

pub returns-clause-written : goal.returns-clause-written
returns-clause-written g c = λ told.
    let size : length c.put_u64.new.bytes ≡ 8 = omega arith in
    on_ok_weaker c.set_gate-2.result
    (λ both. headers_written c.put_u64.new.bytes _ _ _ size (c.in_ok-set_gate.ensures.written told) c.put_u64.ensures.number (c.in_ok-write_at.ensures.written told) (c.write_at.ensures.torn told) both.0 both.1)
    (both_ok _ _ c.set_gate-2.result (c.set_gate-2.ensures.torn told) (c.set_gate-2.ensures.written told))
