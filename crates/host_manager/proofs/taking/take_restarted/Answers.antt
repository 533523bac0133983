use Rattle.std.proofs.Common.{Bool, ap, if◌then◌else◌, sym, ◌∙◌}
use Rattle.std.proofs.lemmas.Result.{on_ok_weaker}
use Rattle.host_asks.specs.Asking.{doing}
use Rattle.host_manager.specs.Learning.{renewed}
use Rattle.host_manager.specs.Taking.{claimed_at}
use Rattle.host_tables.specs.Tables.{site_at}
use Rattle.host_tables.specs.declared.tables.Tables.{Tables}
use Rattle.host_manager.proofs.taking.take_restarted.Goals as goal

pub returns-then-not-is_greeted : goal.returns-then-not-is_greeted
returns-then-not-is_greeted c =
    let new = renewed c.args.server c.args.epoch c.args.tables.now in
    ap (λ (m : Tables). doing m c.args.draft.now) c.renew.ensures
    ∙ ap (λ (b : Bool). if b then claimed_at c.args.server new c.args.draft.now else doing new c.args.draft.now)
    (sym (ap (λ (m : Tables). (site_at m.sites c.args.server).greeted) (sym c.renew.ensures)
    ∙ sym c.is_greeted.ensures ∙ c.if-not-is_greeted.true))

pub returns : goal.returns
returns c =
    let new = renewed c.args.server c.args.epoch c.args.tables.now in
    on_ok_weaker c.claim_at.result (λ t. t
    ∙ ap (λ (m : Tables). claimed_at c.args.server m c.args.draft.now) c.renew.ensures
    ∙ ap (λ (b : Bool). if b then claimed_at c.args.server new c.args.draft.now else doing new c.args.draft.now)
    (sym (ap (λ (m : Tables). (site_at m.sites c.args.server).greeted) (sym c.renew.ensures)
    ∙ sym c.is_greeted.ensures ∙ c.if-not-is_greeted.false))) c.claim_at.ensures
