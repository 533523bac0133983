use Rattle.std.proofs.Common.{arith}
use Rattle.base_outside.proofs.Image.{bytes_from-before}
use Rattle.base_outside.proofs.Runs.{wider_changes}
use Rattle.disk_log.proofs.Formatting.{torn_around}
use Rattle.disk_log.proofs.format.write_zero.Goals as goal

pub returns-clause-others : goal.returns-clause-others
returns-clause-others g c = λ told p lt. bytes_from-before _ _ _ _ _ 512 (c.write_at.ensures.torn told) (omega arith)

pub returns-clause-crash : goal.returns-clause-crash
returns-clause-crash g c = wider_changes c.write_at.ensures.crash (λ a b torn. torn_around _ _ _ a b torn (omega arith) (omega arith))
