use Rattle.disk_log.specs.Log.{state_of, slot_of, IsSoundLog}
use Rattle.disk_log.specs.State.{IsOnly}
use Rattle.disk_anode.specs.Room.{MayPutAll, with_counts}
use Rattle.disk_tests.proofs.changes.filled.Given as goal

abbrev pub invariant-loop-i : goal.invariant-loop-i
invariant-loop-i g l = record {
  sound : IsSoundLog g.D.Disk.tells g.D.Disk.view l.log;
  only : IsOnly (state_of l.log) (slot_of l.tx) 7;
  may : MayPutAll (with_counts l.page) (state_of l.log) (slot_of l.tx);
}
