use Rattle.std.proofs.Common.{refl, sym, ◌∙◌}
use Rattle.std.proofs.lemmas.Result.{on_ok_weaker}
use Rattle.host_manager.specs.Taking.Takes.{HadRestarted, HasRestarted}
use Rattle.host_manager.proofs.taking.take_restart.Goals as goal

pub returns-then-not-is_newer : goal.returns-then-not-is_newer
returns-then-not-is_newer c = HadRestarted (sym c.is_newer.ensures ∙ c.if-not-is_newer.true) refl

pub returns : goal.returns
returns c =
    on_ok_weaker c.take_restarted.result (λ t. HasRestarted (sym c.is_newer.ensures ∙ c.if-not-is_newer.false) t)
    c.take_restarted.ensures
