use Rattle.std.proofs.Common.{◌∙◌, arith}
use Rattle.std.proofs.lemmas.Result.{on_ok_weaker}
use Rattle.base_outside.proofs.Runs.{then_changes, wider_changes}
use Rattle.disk_log.proofs.Formatting.{then_around, around_wider, new_pages}
use Rattle.disk_log.proofs.format.write_new_pages.Goals as goal

pub returns-clause-written : goal.returns-clause-written
returns-clause-written g c = λ told.
    on_ok_weaker c.write_server.result (λ server. new_pages c.args.pages _ _ (c.write_server.ensures.others told) (c.in_ok-write_zeros.ensures.written told) server) (c.write_server.ensures.written told)

pub returns-clause-same : goal.returns-clause-same
returns-clause-same g c = λ told at lt. c.write_server.ensures.same told at lt ∙ c.write_zeros.ensures.same told at lt

pub returns-clause-crash : goal.returns-clause-crash
returns-clause-crash g c =
    then_changes _ (then_around _) c.write_zeros.ensures.crash (wider_changes c.write_server.ensures.crash (λ a b same. around_wider _ _ a b (omega (arith, c.requires.some)) same))
