use Rattle.std.proofs.Common.{◌≡◌, length, arith}
use Rattle.std.proofs.lemmas.Result.{on_ok_weaker}
use Rattle.base_outside.proofs.Runs.{wider_changes}
use Rattle.disk_log.proofs.Formatting.{front_written, front_named, torn_front}
use Rattle.disk_log.proofs.format.write_front.Goals as goal

pub returns-clause-written : goal.returns-clause-written
returns-clause-written g c = λ told.
    let size : length c.superblock_bytes-page.result ≡ 512 = omega arith in
    on_ok_weaker c.write_at.result (λ holds. front_written _ c.superblock_bytes-page.result _ 511 c.superblock_bytes-page.ensures size (omega arith) holds) (c.write_at.ensures.written told)

pub returns-clause-named : goal.returns-clause-named
returns-clause-named g c = λ told.
    let size : length c.superblock_bytes-page.result ≡ 512 = omega arith in
    on_ok_weaker c.write_at.result (λ holds. front_named _ c.superblock_bytes-page.result _ 511 c.superblock_bytes-page.ensures size (omega arith) holds) (c.write_at.ensures.written told)
