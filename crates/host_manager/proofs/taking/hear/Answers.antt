use Rattle.std.proofs.Common.{refl, subst, sym, ◌∙◌}
use Rattle.std.proofs.lemmas.Result.{on_ok_weaker}
use Rattle.host_asks.specs.Asking.{doing}
use Rattle.host_asks.specs.Going.{GoesOn}
use Rattle.host_manager.proofs.Tooks.{heard_is, not_heard}
use Rattle.host_manager.specs.Taking.{welcomed}
use Rattle.host_manager.specs.Taking.Takes.{Hears, IsOld}
use Rattle.host_tables.specs.Tables.{site_at}
use Rattle.host_manager.proofs.taking.hear.Goals as goal

pub returns-then-not-is_heard : goal.returns-then-not-is_heard
returns-then-not-is_heard c = IsOld c.args.reclaimed.now
    (not_heard (site_at c.args.tables.now.sites c.args.message.now.server).epoch c.args.message.now.epoch
    (sym c.is_heard.ensures ∙ c.if-not-is_heard.true)) refl

pub returns : goal.returns
returns c =
    on_ok_weaker c.welcome.result (λ h. Hears c.args.reclaimed.now
    (heard_is (site_at c.args.tables.now.sites c.args.message.now.server).epoch c.args.message.now.epoch
    (sym c.is_heard.ensures ∙ c.if-not-is_heard.false))
    (subst (λ at. GoesOn (welcomed c.args.message.now.server at) (doing c.welcome.new.tables c.welcome.new.draft))
    c.in_ok-hear_epoch.ensures h)) c.welcome.ensures
