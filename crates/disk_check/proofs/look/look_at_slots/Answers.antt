use Rattle.std.proofs.Common.{rules, refl, subst, arith, List, ℕ}
use Rattle.base_outside.proofs.Runs.{quiet_then}
use Rattle.disk_judge.specs.Metadata.{over}
use Rattle.disk_check.specs.Found.{LooksAtSlot}
use Rattle.disk_check.proofs.Looking.{slots_none, slots_more}
use Rattle.disk_check.proofs.look.look_at_slots.Goals as goal

pub loop-slot-init : goal.loop-slot-init
loop-slot-init g c = record {
  mapped = c.requires.mapped;
  looks = λ told. slots_none _ _;
  quiet = search rules;
  counted = search rules;
}

pub loop-slot-preserved : goal.loop-slot-preserved
loop-slot-preserved g c =
    let inv = c.loop-slot.invariant in
    let metadata = c.args.metadata.now in
    record {
      mapped = c.in_ok-look_at_slot.ensures.mapped;
      looks = λ told. slots_more _ c.loop-slot.slot _ _ c.loop-slot.found _ refl (inv.looks told)
          (subst (λ (image : List ℕ). LooksAtSlot (over metadata image) c.loop-slot.slot c.loop-slot.found c.look_at_slot.new.found) inv.quiet.image (c.in_ok-look_at_slot.ensures.looks told));
      quiet = quiet_then inv.quiet c.look_at_slot.ensures.quiet;
      counted = let a = inv.counted in let b = c.look_at_slot.ensures.counted in omega (arith, a, b);
    }
