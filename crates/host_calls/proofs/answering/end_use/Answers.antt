use Rattle.std.proofs.Common.{ap, sym, ◌∙◌}
use Rattle.host_labels.specs.Labels.{InUse}
use Rattle.host_calls.proofs.Owned.{drop_none}
use Rattle.host_calls.proofs.answering.end_use.Goals as goal

pub returns-in_err-used-clause-after : goal.returns-in_err-used-clause-after
returns-in_err-used-clause-after c =
    let m = c.args.tables.now in
    let same = drop_none m.uses c.args.lock c.args.label.now c.laws.ensures (sym c.in_err-used.ensures.dropped) in
    rw c.from_residual.ensures (ap (λ (u : InUse). record m { uses = u }) (c.drop_label.ensures.after ∙ same))
