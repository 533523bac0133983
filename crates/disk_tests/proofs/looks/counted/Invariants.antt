use Rattle.std.proofs.Common.{◌≡◌}
use Rattle.disk_log.specs.Log.{state_of}
use Rattle.disk_tests.specs.Ready.{IsReady}
use Rattle.disk_tests.proofs.looks.counted.Given as goal

abbrev pub invariant-loop-block : goal.invariant-loop-block
invariant-loop-block g l = record {
  ready : IsReady g.D.Disk.tells g.D.Disk.view l.log;
  state : state_of l.log ≡ state_of l.initial.log;
}
