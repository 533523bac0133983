use Rattle.std.proofs.Common.{◌*◌, ◌+◌, [], ◌∷◌, ◌++◌, refl, sym, ◌∙◌}
use Rattle.disk_image.proofs.Joined.{joined_none, joined_more}
use Rattle.disk_pages.specs.Numbers.{record_at}
use Rattle.disk_records.proofs.server.records_in.Goals as goal

pub loop-host-init : goal.loop-host-init
loop-host-init c = c.new-records.ensures ∙ sym (joined_none (λ host. record_at (24 * host) c.args.page.now ∷ []))

pub loop-host-preserved : goal.loop-host-preserved
loop-host-preserved c =
    c.in_ok-push.ensures.ok ∙ (λ i. c.loop-host.invariant i ++ c.record_at.ensures i ∷ [])
    ∙ sym (joined_more (λ host. record_at (24 * host) c.args.page.now ∷ []) c.loop-host.host (c.loop-host.host + 1) refl)
