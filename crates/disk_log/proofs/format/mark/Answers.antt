use Rattle.std.proofs.Common.{◌∙◌, List, ℕ, ap}
use Rattle.std.proofs.lemmas.Result.{on_ok_weaker}
use Rattle.base_types.specs.Image.{byte_at}
use Rattle.base_outside.proofs.Runs.{then_changes, quiet_changes}
use Rattle.disk_log.proofs.Formatting.{then_front, front_none, front_still, named_still}
use Rattle.disk_log.proofs.format.mark.Goals as goal

pub returns-clause-written : goal.returns-clause-written
returns-clause-written g c = λ told.
    on_ok_weaker c.sync.result (λ _. front_still _ _ _ c.sync.ensures.quiet.image (c.in_ok-write_front.ensures.written told)) c.sync.ensures.durable

pub returns-clause-named : goal.returns-clause-named
returns-clause-named g c = λ told.
    on_ok_weaker c.sync.result (λ _. named_still _ _ c.sync.ensures.quiet.image (c.in_ok-write_front.ensures.named told)) c.sync.ensures.durable

pub returns-clause-same : goal.returns-clause-same
returns-clause-same g c = λ told at out.
    ap (λ (l : List ℕ). byte_at l at) c.sync.ensures.quiet.image ∙ c.write_front.ensures.same told at out

pub returns-clause-crash : goal.returns-clause-crash
returns-clause-crash g c = then_changes _ then_front c.write_front.ensures.crash (quiet_changes _ front_none c.sync.ensures.quiet)
