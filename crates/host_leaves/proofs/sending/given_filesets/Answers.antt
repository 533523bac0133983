use Rattle.std.proofs.Common.{[], ap, fold, ◌∙◌}
use Rattle.host_leaves.specs.Sending.{filesets_given}
use Rattle.host_leaves.proofs.Slots.{given_in, with_slot}
use Rattle.host_leaves.proofs.Steps.{fold_next, take_whole}
use Rattle.host_leaves.proofs.sending.given_filesets.Goals as goal

pub loop-slot-preserved : goal.loop-slot-preserved
loop-slot-preserved c =
    c.in_ok-push_slot.ensures
    ∙ ap (λ filesets. with_slot filesets c.slot-item.result) c.loop-slot.invariant
    ∙ fold_next c.slots-slots.result.now c.loop-slot.slot-index c.slot-item.result c.loop-slot-test.true
    c.slot-item.is with_slot []

pub returns : goal.returns
returns c =
    c.loop-slot.invariant
    ∙ ap (fold with_slot []) (take_whole c.slots-slots.result.now c.loop-slot.slot-index c.loop-slot-test.false)
    ∙ given_in c.slots-slots.result.now ∙ ap filesets_given c.slots-slots.ensures
