use Rattle.std.proofs.Common.{refl, sym, ◌∙◌, ◌+◌, arith}
use Rattle.disk_image.proofs.Joined.{total_none, total_more}
use Rattle.disk_judge.proofs.promise.promises.Goals as goal

pub loop-slot-init : goal.loop-slot-init
loop-slot-init c = record { value = sym (total_none _); few = omega arith }

pub loop-slot-preserved : goal.loop-slot-preserved
loop-slot-preserved c = record {
  value = (λ j. c.loop-slot.invariant.value j + c.slot_promise-blocks.ensures.value j) ∙ sym (total_more _ c.loop-slot.slot _ refl);
  few = omega (arith, c.loop-slot.invariant.few, c.slot_promise-blocks.ensures.few);
}
