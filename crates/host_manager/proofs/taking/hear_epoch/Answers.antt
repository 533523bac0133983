use Rattle.std.proofs.Common.{Bool, ap, if◌then◌else◌, sym, ◌∙◌}
use Rattle.std.proofs.lemmas.Result.{on_ok_weaker}
use Rattle.host_asks.specs.Asking.{doing}
use Rattle.host_manager.specs.Learning.{renewed}
use Rattle.host_manager.specs.Taking.{reclaiming}
use Rattle.host_tables.specs.Tables.{site_at}
use Rattle.host_manager.proofs.taking.hear_epoch.Goals as goal

pub returns-then-is_of_epoch : goal.returns-then-is_of_epoch
returns-then-is_of_epoch c =
    let m = c.args.tables.now in
    let draft = c.args.draft.now in
    let v = c.args.message.now.server in
    on_ok_weaker c.take_reclaimed.result (λ t. t
    ∙ ap (λ s. reclaiming s c.args.reclaimed.now (doing m draft)) c.site-site.ensures
    ∙ ap (λ (b : Bool). if b then reclaiming (site_at m.sites v) c.args.reclaimed.now (doing m draft)
    else doing (renewed v c.args.message.now.epoch m) draft) (sym (sym c.is_of_epoch.ensures ∙ c.if-is_of_epoch.true)))
    c.take_reclaimed.ensures

pub returns : goal.returns
returns c =
    let m = c.args.tables.now in
    let draft = c.args.draft.now in
    let v = c.args.message.now.server in
    ap (λ x. doing x draft) c.renew.ensures
    ∙ ap (λ (b : Bool). if b then reclaiming (site_at m.sites v) c.args.reclaimed.now (doing m draft)
    else doing (renewed v c.args.message.now.epoch m) draft) (sym (sym c.is_of_epoch.ensures ∙ c.if-is_of_epoch.false))
