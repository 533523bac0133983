use Rattle.std.proofs.Common.{◌∙◌, ap, sym, Some, None}
use Rattle.std.specs.Prelude.{if◌then◌else◌}
use Rattle.store_laws.specs.Acts.{number_written}
use Rattle.service_stores.proofs.acts.number_written.Goals as goal

pub returns-then-leaves_unsaved : goal.returns-then-leaves_unsaved
returns-then-leaves_unsaved c =
    sym (ap number_written c.in-Call.is ∙ c.leaves_unsaved.ensures c.in-Call.host c.in-Call.k
    ∙ ap (λ b. if b then Some c.in-Call.k else None) c.if-leaves_unsaved.true)

pub returns-else-leaves_unsaved : goal.returns-else-leaves_unsaved
returns-else-leaves_unsaved c =
    sym (ap number_written c.in-Call.is ∙ c.leaves_unsaved.ensures c.in-Call.host c.in-Call.k
    ∙ ap (λ b. if b then Some c.in-Call.k else None) c.if-leaves_unsaved.false)
