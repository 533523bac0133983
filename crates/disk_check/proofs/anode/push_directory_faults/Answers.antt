use Rattle.std.proofs.Common.{refl}
use Rattle.disk_image.proofs.Joined.{pushed_none, pushed_more}
use Rattle.disk_check.proofs.anode.push_directory_faults.Goals as goal

pub loop-n-init : goal.loop-n-init
loop-n-init c = λ image slot i page_is are. pushed_none _ _

pub loop-n-preserved : goal.loop-n-preserved
loop-n-preserved c = λ image slot i page_is are.
    pushed_more _ c.loop-n.n _ _ _ _ refl (c.loop-n.invariant image slot i page_is are) (c.in_ok-push_directory_fault.ensures image slot i page_is are)
