use Rattle.std.proofs.Common.{rules, refl, subst, arith, List, ℕ}
use Rattle.base_outside.proofs.Runs.{quiet_then}
use Rattle.disk_judge.specs.Metadata.{over}
use Rattle.disk_check.specs.Found.{LooksAtOne}
use Rattle.disk_check.proofs.Looking.{looks_none, looks_more}
use Rattle.disk_check.proofs.look.look_at_anodes.Goals as goal

pub loop-i-init : goal.loop-i-init
loop-i-init g c = record {
  mapped = c.requires.mapped;
  from = c.requires.from;
  looks = λ told. looks_none _ _ _;
  quiet = search rules;
  counted = search rules;
}

pub loop-i-preserved : goal.loop-i-preserved
loop-i-preserved g c =
    let inv = c.loop-i.invariant in
    let metadata = c.args.metadata.now in
    record {
      mapped = c.in_ok-look_at_anode.ensures.mapped;
      from = c.in_ok-look_at_anode.ensures.from;
      looks = λ told. looks_more _ c.args.slot c.loop-i.i _ _ c.loop-i.found _ refl (inv.looks told)
          (subst (λ (image : List ℕ). LooksAtOne (over metadata image) c.args.slot c.loop-i.i c.loop-i.found c.look_at_anode.new.found) inv.quiet.image (c.in_ok-look_at_anode.ensures.looks told));
      quiet = quiet_then inv.quiet c.look_at_anode.ensures.quiet;
      counted = let a = inv.counted in let b = c.look_at_anode.ensures.counted in omega (arith, a, b);
    }
