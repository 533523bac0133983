use Rattle.std.proofs.Common.{ap, ◌∙◌}
use Rattle.host_leaves.specs.Revoking.{with_given}
use Rattle.host_leaves.proofs.Steps.{fold_next}
use Rattle.host_leaves.proofs.revoking.note_all.Goals as goal

pub loop-left-preserved : goal.loop-left-preserved
loop-left-preserved c =
    c.in_ok-note_left.ensures
    ∙ ap (λ given. with_given c.args.tables.now c.args.id given c.left-item.result) c.loop-left.invariant
    ∙ fold_next c.args.leaving.now c.loop-left.left-index c.left-item.result c.loop-left-test.true
    c.left-item.is (with_given c.args.tables.now c.args.id) c.args.given.now
