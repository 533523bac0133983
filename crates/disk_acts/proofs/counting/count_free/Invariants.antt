use Rattle.std.proofs.Common.{◌≡◌, ◌≤◌, ◌*◌, min}
use Rattle.base_types.specs.Crash.{IsQuiet}
use Rattle.disk_log.specs.Log.{disk_of, state_of, IsIdle}
use Rattle.disk_anode.specs.Room.{how_many}
use Rattle.disk_acts.proofs.Free.{is_zero}
use Rattle.disk_acts.proofs.counting.count_free.Given as goal

-- the blocks whose counts stand in the pages so far
abbrev pub invariant-loop-index : goal.invariant-loop-index
invariant-loop-index g l =
    let start = g.D.Disk.view (disk_of l.initial.log) in
    let now = g.D.Disk.view (disk_of l.log) in
    record {
      idle : IsIdle g.D.Disk.tells g.D.Disk.view l.log;
      state : state_of l.log ≡ state_of l.initial.log;
      zeros : g.D.Disk.tells → l.free ≡ how_many (is_zero (state_of l.initial.log) start.image) (min (256 * l.index) (state_of l.initial.log).superblock.blocks);
      few : l.free ≤ min (256 * l.index) (state_of l.initial.log).superblock.blocks;
      quiet : IsQuiet start now;
      counted : start.faults ≤ now.faults;
    }
