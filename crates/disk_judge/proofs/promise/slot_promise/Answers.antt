use Rattle.std.proofs.Common.{◌∙◌, sym, ap}
use Rattle.disk_image.specs.Counts.{promise_by}
use Rattle.disk_pages.specs.declared.header.SlotState.{SlotState}
use Rattle.disk_judge.specs.Metadata.{plain}
use Rattle.disk_judge.proofs.promise.slot_promise.Goals as goal

pub returns-in-Clone-clause-value : goal.returns-in-Clone-clause-value
returns-in-Clone-clause-value c =
    c.clone_promise.ensures.value ∙ ap (λ (state : SlotState). promise_by state (plain c.args.metadata.now) c.args.slot) (sym c.in-Clone.is ∙ c.state_at.ensures)
