use Rattle.std.proofs.Common.{◌∙◌, ◌++◌, refl, arith}
use Rattle.disk_image.specs.Anodes.{unless}
use Rattle.disk_image.specs.declared.fault.Rule.TheVariants as rules
use Rattle.disk_image.proofs.Joined.{pushed_none, pushed_more}
use Rattle.disk_check.proofs.checking.push_count_faults.Goals as goal

pub loop-p-init : goal.loop-p-init
loop-p-init c = λ disk size are. pushed_none _ _

pub loop-p-preserved : goal.loop-p-preserved
loop-p-preserved c = λ disk size are.
    pushed_more _ c.loop-p.p _ _ _ _ refl (c.loop-p.invariant disk size are)
    (c.in_ok-push_unless.ensures ∙ (λ j. c.loop-p.faults.items ++ unless (are c.loop-p.p (omega (arith, size)) j) (c.page_place.ensures j) rules.Count))
