use Rattle.std.proofs.Common.{arith}
use Rattle.std.proofs.lemmas.Result.{on_ok_weaker}
use Rattle.base_outside.proofs.Runs.{then_changes, wider_changes}
use Rattle.disk_log.proofs.Formatting.{then_around, around_wider, gates_around, is_prepared}
use Rattle.disk_log.proofs.format.prepare.Goals as goal

pub returns-in_err-close_gates-clause-crash : goal.returns-in_err-close_gates-clause-crash
returns-in_err-close_gates-clause-crash g c =
    wider_changes c.close_gates.ensures.crash (λ a b same. around_wider 6292992 _ a b (omega arith) (gates_around _ a b (omega arith) (omega arith) same))

pub returns-in_err-close_gates-2-clause-crash : goal.returns-in_err-close_gates-2-clause-crash
returns-in_err-close_gates-2-clause-crash g c =
    then_changes _ (then_around _)
    (wider_changes c.close_gates.ensures.crash (λ a b same. around_wider 6292992 _ a b (omega arith) (gates_around _ a b (omega arith) (omega arith) same)))
    (wider_changes c.close_gates-2.ensures.crash (λ a b same. around_wider 6292992 _ a b (omega arith) (gates_around _ a b (omega arith) (omega arith) same)))

pub returns-in_err-write_headers-clause-crash : goal.returns-in_err-write_headers-clause-crash
returns-in_err-write_headers-clause-crash g c =
    then_changes _ (then_around _)
    (then_changes _ (then_around _)
    (wider_changes c.close_gates.ensures.crash (λ a b same. around_wider 6292992 _ a b (omega arith) (gates_around _ a b (omega arith) (omega arith) same)))
    (wider_changes c.close_gates-2.ensures.crash (λ a b same. around_wider 6292992 _ a b (omega arith) (gates_around _ a b (omega arith) (omega arith) same))))
    (wider_changes c.write_headers.ensures.crash (λ a b same. around_wider 6292992 _ a b (omega arith) same))

pub returns-clause-crash : goal.returns-clause-crash
returns-clause-crash g c =
    then_changes _ (then_around _)
    (then_changes _ (then_around _)
    (then_changes _ (then_around _)
    (wider_changes c.close_gates.ensures.crash (λ a b same. around_wider 6292992 _ a b (omega arith) (gates_around _ a b (omega arith) (omega arith) same)))
    (wider_changes c.close_gates-2.ensures.crash (λ a b same. around_wider 6292992 _ a b (omega arith) (gates_around _ a b (omega arith) (omega arith) same))))
    (wider_changes c.write_headers.ensures.crash (λ a b same. around_wider 6292992 _ a b (omega arith) same)))
    c.write_new_pages.ensures.crash

pub returns-clause-written : goal.returns-clause-written
returns-clause-written g c = λ told.
    on_ok_weaker c.write_new_pages.result
    (λ zeros. is_prepared c.args.pages _ _ _ _ (c.in_ok-close_gates.ensures.closed told) (c.close_gates-2.ensures.same told) (c.in_ok-write_headers.ensures.same told) (c.in_ok-write_headers.ensures.written told) (c.write_new_pages.ensures.same told) zeros)
    (c.write_new_pages.ensures.written told)
