use Rattle.std.proofs.Common.{ap, true, ◌∙◌}
use Rattle.std.proofs.lemmas.Result.{on_ok_weaker}
use Rattle.host_asks.specs.Asking.{doing}
use Rattle.host_asks.specs.Claiming.{claiming}
use Rattle.host_manager.specs.Taking.{sending_each}
use Rattle.host_tables.specs.Updates.{with_site}
use Rattle.host_tables.specs.declared.draft.Draft.{Draft}
use Rattle.host_tables.specs.declared.tables.Tables.{Tables}
use Rattle.host_manager.proofs.taking.claim_at.Goals as goal

pub returns : goal.returns
returns c =
    let m = c.args.tables.now in
    let v = c.args.server in
    let mid : Tables = record m { sites = c.put_site.new.sites } in
    let sites = c.put_site.ensures ∙ (λ i. with_site (record (c.site-site.ensures i) { claimed = true }) m.sites) in
    on_ok_weaker c.claim.result (λ t. ap (doing mid) (t
    ∙ ap (λ (d : Draft). claiming mid d v) c.in_ok-send_all_given.ensures)
    ∙ (λ i. let x : Tables = record m { sites = sites i } in
    doing x (claiming x (sending_each x v c.args.draft.now) v))) c.claim.ensures
