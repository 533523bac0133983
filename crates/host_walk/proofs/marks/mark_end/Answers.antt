use Rattle.std.proofs.Common.{◌∙◌}
use Rattle.host_cache.specs.Seen.{seen}
use Rattle.host_walk.proofs.Marking.{used_more}
use Rattle.host_walk.proofs.marks.mark_end.Goals as goal

pub loop-need-preserved : goal.loop-need-preserved
loop-need-preserved c =
    c.mark-in-loop-need.ensures
    ∙ used_more c.args.needs.now c.loop-need.need-index c.need-item.result (seen c.mark.new.cache)
    (seen c.loop-need.cache) c.loop-need-test.true c.need-item.is c.loop-need.invariant
