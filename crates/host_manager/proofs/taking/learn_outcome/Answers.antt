use Rattle.std.proofs.Common.{ap, sym, ◌∙◌}
use Rattle.std.proofs.lemmas.Result.{on_ok_weaker}
use Rattle.host_manager.proofs.Tooks.{other_told}
use Rattle.host_manager.specs.Taking.{told_by}
use Rattle.host_manager.proofs.taking.learn_outcome.Goals as goal

pub returns-in-Known : goal.returns-in-Known
returns-in-Known c =
    on_ok_weaker c.learn_home.result (λ t. t ∙ ap (λ o. told_by o c.args.tables.now) (sym c.in-Known.is))
    c.learn_home.ensures

pub returns-in-Reply : goal.returns-in-Reply
returns-in-Reply c =
    let m = c.args.tables.now in
    (λ i. record m { request = c.forget_request.ensures i; call = c.forget_call.ensures i })
    ∙ ap (λ o. told_by o m) (sym c.in-Reply.is)

pub returns-in_default : goal.returns-in_default
returns-in_default c =
    let m = c.args.tables.now in
    (λ i. record m { request = c.forget_request-in_default.ensures i })
    ∙ other_told c.args.outcome.now m c.in_default.not-Known c.in_default.not-Reply
