use Rattle.std.proofs.Common.{refl, ◌∙◌}
use Rattle.disk_image.proofs.Joined.{pushed_none, pushed_more}
use Rattle.disk_check.proofs.Read.{map_use_is}
use Rattle.disk_check.proofs.anode.push_map_uses.Goals as goal

pub loop-j-init : goal.loop-j-init
loop-j-init c = λ disk i map_is counted. pushed_none _ _

pub loop-j-preserved : goal.loop-j-preserved
loop-j-preserved c = λ disk i map_is counted.
    pushed_more _ c.loop-j.j _ _ _ _ refl (c.loop-j.invariant disk i map_is counted)
    (c.in_ok-push.ensures.items ∙ map_use_is disk c.args.slot i c.loop-j.j _ _ _ _ c.map_pointer.ensures map_is counted)
