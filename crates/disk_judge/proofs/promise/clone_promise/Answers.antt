use Rattle.std.proofs.Common.{refl, sym, ◌∙◌, ◌+◌, ap, arith}
use Rattle.std.specs.Prelude.{List, ℕ}
use Rattle.disk_image.specs.Counts.{object_promise}
use Rattle.disk_image.proofs.Joined.{total_none, total_more}
use Rattle.disk_judge.proofs.promise.clone_promise.Goals as goal

pub loop-i-init : goal.loop-i-init
loop-i-init c = record { value = sym (total_none _); few = omega arith }

pub loop-i-preserved : goal.loop-i-preserved
loop-i-preserved c = record {
  value = (λ j. c.loop-i.invariant.value j + (c.object_promise-blocks.ensures.value ∙ ap (λ (page : List ℕ). object_promise page) c.anode.ensures) j) ∙ sym (total_more _ c.loop-i.i _ refl);
  few = omega (arith, c.loop-i.invariant.few, c.object_promise-blocks.ensures.few);
}

pub returns-clause-few : goal.returns-clause-few
returns-clause-few c = omega (arith, c.loop-i.invariant.few)
