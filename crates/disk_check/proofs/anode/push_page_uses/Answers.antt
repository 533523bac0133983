use Rattle.std.proofs.Common.{refl, ◌∙◌, arith}
use Rattle.disk_image.proofs.Joined.{pushed_none, pushed_more}
use Rattle.disk_judge.specs.Metadata.{over}
use Rattle.disk_check.proofs.Read.{page_use_is}
use Rattle.disk_check.proofs.anode.push_page_uses.Goals as goal

pub loop-w-init : goal.loop-w-init
loop-w-init c = λ metadata image i page_is. pushed_none _ _

pub loop-w-preserved : goal.loop-w-preserved
loop-w-preserved c = λ metadata image i page_is.
    pushed_more _ c.loop-w.w _ _ _ _ refl (c.loop-w.invariant metadata image i page_is)
    (c.in_ok-push.ensures.items ∙ page_use_is (over metadata image) c.args.slot i c.loop-w.w _ _ _ c.page_pointer.ensures page_is (omega arith))
