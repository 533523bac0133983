use Rattle.std.proofs.Common.{◌≡◌, ◌∙◌, ap}
use Rattle.std.proofs.lemmas.Result.{on_ok_weaker}
use Rattle.run_rules.specs.declared.step.Cause.TheVariants.{Lapse}
use Rattle.run_rules.specs.declared.step.Step.{Step}
use Rattle.server_takes.specs.Drafts.{step_of}
use Rattle.server_takes.specs.declared.draft.Draft.{Draft}
use Rattle.server_says.specs.Hailing.{hailing}
use Rattle.server_says.specs.Revoking.{asking_back, lapse_step, owed}
use Rattle.server_says.proofs.StepsMade.{if_made, step_made}
use Rattle.server_says.proofs.lapsing.lapse_step.Goals as goal

pub returns-clause-step : goal.returns-clause-step
returns-clause-step c =
    let x = c.args.tables.now in
    step_made c.hail_and_revoke-sent.result c.into_step.result c.step_if.result c.step_if.ensures
    (λ (step : Step). step ≡ lapse_step x)
    (on_ok_weaker c.hail_and_revoke-sent.result
    (λ e. c.into_step.ensures ∙ ap (λ (d : Draft). step_of x.server Lapse d)
    (e ∙ ap (λ (d : Draft). (asking_back x (hailing x d) (owed x)).draft) c.new-draft.ensures))
    c.hail_and_revoke-sent.ensures.draft)

pub returns-clause-tables : goal.returns-clause-tables
returns-clause-tables c =
    if_made c.hail_and_revoke-sent.result c.into_step.result c.step_if.result c.step_if.ensures _
    c.hail_and_revoke-sent.ensures.tables
