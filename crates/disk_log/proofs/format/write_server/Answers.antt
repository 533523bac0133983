use Rattle.std.proofs.Common.{arith}
use Rattle.std.proofs.lemmas.Result.{on_ok_weaker}
use Rattle.base_outside.proofs.Image.{bytes_from-behind}
use Rattle.base_outside.proofs.Runs.{wider_changes}
use Rattle.disk_log.proofs.Formatting.{server_written, torn_around}
use Rattle.disk_log.proofs.format.write_server.Goals as goal

pub returns-clause-written : goal.returns-clause-written
returns-clause-written g c = λ told. on_ok_weaker c.write_at.result (λ holds. server_written c.new_server_page.result _ (omega arith) c.new_server_page.ensures holds) (c.write_at.ensures.written told)

pub returns-clause-others : goal.returns-clause-others
returns-clause-others g c = λ told p le. bytes_from-behind _ _ _ _ _ 512 (c.write_at.ensures.torn told) (omega arith)

pub returns-clause-same : goal.returns-clause-same
returns-clause-same g c = λ told at lt. (c.write_at.ensures.torn told).before at lt

pub returns-clause-crash : goal.returns-clause-crash
returns-clause-crash g c = wider_changes c.write_at.ensures.crash (λ a b torn. torn_around _ _ _ a b torn (omega arith) (omega arith))
