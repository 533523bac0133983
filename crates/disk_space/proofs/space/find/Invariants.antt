use Rattle.std.proofs.Common.{◌≡◌, ◌≤◌, ◌*◌}
use Rattle.base_types.specs.Crash.{IsQuiet}
use Rattle.disk_log.specs.Log.{disk_of, state_of, IsSoundLog}
use Rattle.disk_space.specs.Counts.{AreUsed}
use Rattle.disk_space.proofs.space.find.Given as goal

abbrev pub invariant-loop-page : goal.invariant-loop-page
invariant-loop-page g l =
    let start = g.D.Disk.view (disk_of l.initial.log) in
    let now = g.D.Disk.view (disk_of l.log) in
    record {
      sound : IsSoundLog g.D.Disk.tells g.D.Disk.view l.log;
      state : state_of l.log ≡ state_of l.initial.log;
      used : g.D.Disk.tells → AreUsed (state_of l.initial.log) start.image 0 (256 * l.page);
      quiet : IsQuiet start now;
      counted : start.faults ≤ now.faults;
    }
