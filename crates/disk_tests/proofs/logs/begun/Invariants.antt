use Rattle.std.proofs.Common.{◌≤◌}
use Rattle.disk_log.specs.Log.{state_of, slot_of, IsSoundLog}
use Rattle.disk_log.specs.Puts.{count_of}
use Rattle.disk_log.specs.State.{IsOnly}
use Rattle.disk_tests.proofs.logs.begun.Given as goal

abbrev pub invariant-loop-i : goal.invariant-loop-i
invariant-loop-i g l = record {
  sound : IsSoundLog g.D.Disk.tells g.D.Disk.view l.log;
  only : IsOnly (state_of l.log) (slot_of l.tx) 7;
  few : count_of (slot_of l.tx) (state_of l.log).puts ≤ l.i;
}
