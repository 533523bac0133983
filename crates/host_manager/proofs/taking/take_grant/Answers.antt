use Rattle.std.proofs.Common.{Option, Some, refl, subst, sym, ◌∙◌}
use Rattle.std.proofs.lemmas.Result.{on_ok_weaker}
use Rattle.host_asks.specs.Asking.{doing}
use Rattle.host_manager.specs.Learning.{UsesBring}
use Rattle.host_manager.specs.Taking.TakesBody.{IsGrant, IsLateGrant}
use Rattle.host_tables.specs.declared.calls.Request.{Request}
use Rattle.host_manager.proofs.taking.take_grant.Goals as goal

pub returns-then-not-is_fetched : goal.returns-then-not-is_fetched
returns-then-not-is_fetched c = λ server. IsLateGrant c.args.grant.now (sym c.is_fetched.ensures
    ∙ c.if-not-is_fetched.true) refl

pub returns : goal.returns
returns c =
    let m = c.args.tables.now in
    on_ok_weaker c.go_on.result (λ h server. IsGrant c.args.grant.now
    (sym c.is_fetched.ensures ∙ c.if-not-is_fetched.false) (doing c.use_bring.new.tables c.use_bring.new.draft)
    (subst (λ (r : Option Request). UsesBring c.args.grant.now.bring (Some c.args.grant.now) (record m { request = r })
    c.args.draft.now c.use_bring.new.tables c.use_bring.new.draft) c.forget_request.ensures c.in_ok-use_bring.ensures)
    h) c.go_on.ensures
