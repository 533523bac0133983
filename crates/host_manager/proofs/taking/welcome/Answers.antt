use Rattle.std.proofs.Common.{List, ap, subst, ◌∙◌}
use Rattle.std.proofs.lemmas.Result.{on_ok_weaker}
use Rattle.host_asks.specs.Asking.{doing}
use Rattle.host_asks.specs.Going.{GoesOn}
use Rattle.host_manager.specs.Taking.{with_welcome}
use Rattle.host_tables.specs.Updates.{with_site}
use Rattle.host_tables.specs.declared.sites.Site.{Site}
use Rattle.host_manager.proofs.taking.welcome.Goals as goal

pub returns : goal.returns
returns c =
    let m = c.args.tables.now in
    on_ok_weaker c.go_on.result (λ h. subst (λ (ss : List Site).
    GoesOn (doing (record m { sites = ss }) c.args.draft.now) (doing c.go_on.new.tables c.go_on.new.draft))
    (c.put_site.ensures ∙ ap (λ (s : Site). with_site s m.sites)
    (c.with_welcome-site.ensures ∙ ap with_welcome c.site.ensures)) h) c.go_on.ensures
