use Rattle.std.proofs.Common.{arith}
use Rattle.disk_log.proofs.Under.{redo_step}
use Rattle.disk_log.proofs.over.redo.Goals as goal

pub loop-entry-preserved : goal.loop-entry-preserved
loop-entry-preserved c = redo_step c.args.entries.now c.loop-entry.entry-index _ _ _ _ _ (omega arith) c.redo_one.ensures c.loop-entry.invariant
