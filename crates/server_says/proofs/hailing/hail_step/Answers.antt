use Rattle.std.proofs.Common.{◌≡◌, ◌∙◌, ap}
use Rattle.std.proofs.lemmas.Result.{on_ok_weaker}
use Rattle.run_rules.specs.declared.step.Step.{Step}
use Rattle.server_takes.specs.Drafts.{no_draft, step_of}
use Rattle.server_takes.specs.declared.draft.Draft.{Draft}
use Rattle.server_says.specs.Hailing.{hailing}
use Rattle.server_says.proofs.StepsMade.{step_made}
use Rattle.server_says.proofs.hailing.hail_step.Goals as goal

pub returns : goal.returns
returns c =
    let x = c.args.tables.now in
    step_made c.hail_all-hailed.result c.into_step.result c.step_if.result c.step_if.ensures
    (λ (step : Step). step ≡ step_of x.server c.args.cause (hailing x no_draft))
    (on_ok_weaker c.hail_all-hailed.result
    (λ e. c.into_step.ensures ∙ ap (λ (d : Draft). step_of x.server c.args.cause d)
    (e ∙ ap (λ (d : Draft). hailing x d) c.new-draft.ensures))
    c.hail_all-hailed.ensures)
