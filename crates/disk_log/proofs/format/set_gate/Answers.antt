use Rattle.std.proofs.Common.{List, ℕ, subst, arith}
use Rattle.std.proofs.lemmas.Result.{on_ok_weaker}
use Rattle.base_types.specs.Image.{Torn}
use Rattle.base_outside.proofs.Image.{byte_at-holds}
use Rattle.base_outside.proofs.Runs.{then_changes, wider_changes, quiet_changes}
use Rattle.disk_log.proofs.Formatting.{then_around, around_none, torn_around}
use Rattle.disk_log.proofs.format.set_gate.Goals as goal

pub returns-clause-written : goal.returns-clause-written
returns-clause-written g c = λ told. on_ok_weaker c.write_at.result (λ holds. byte_at-holds _ _ _ holds) (c.write_at.ensures.written told)

pub returns-clause-torn : goal.returns-clause-torn
returns-clause-torn g c = λ told.
    on_ok_weaker c.write_at.result (λ holds. subst (λ (image : List ℕ). Torn c.args.at 1 image (g.D.Disk.view c.write_at.new.self).image) c.read_byte.ensures.quiet.image (c.write_at.ensures.torn told)) (c.write_at.ensures.written told)

pub returns-in_err-read_byte-clause-crash : goal.returns-in_err-read_byte-clause-crash
returns-in_err-read_byte-clause-crash g c = quiet_changes _ (around_none 6292992) c.read_byte.ensures.quiet

pub returns-then-branch-gate-clause-crash : goal.returns-then-branch-gate-clause-crash
returns-then-branch-gate-clause-crash g c = quiet_changes _ (around_none 6292992) c.read_byte.ensures.quiet

pub returns-clause-crash : goal.returns-clause-crash
returns-clause-crash g c =
    then_changes _ (then_around 6292992) (quiet_changes _ (around_none 6292992) c.read_byte.ensures.quiet)
    (wider_changes c.write_at.ensures.crash (λ a b torn. torn_around _ _ 6292992 a b torn c.requires.low (omega (arith, c.requires.high))))
