use Rattle.std.proofs.Common.{◌≡◌, ◌≤◌}
use Rattle.base_types.specs.Crash.{IsQuiet}
use Rattle.disk_log.specs.Log.{disk_of, state_of, slot_of, IsSoundLog}
use Rattle.disk_anode.specs.Node.{names_below}
use Rattle.disk_anode.specs.Room.{are_counts, PutsPages}
use Rattle.disk_anode.specs.Changes.{Moves}
use Rattle.disk_anode.proofs.blocks.share_all.Given as goal

abbrev pub invariant-loop-w : goal.invariant-loop-w
invariant-loop-w g l =
    let start = g.D.Disk.view (disk_of l.initial.log) in
    let now = g.D.Disk.view (disk_of l.log) in
    record {
      sound : IsSoundLog g.D.Disk.tells g.D.Disk.view l.log;
      tx : l.tx ≡ l.initial.tx;
      puts : PutsPages are_counts (slot_of l.initial.tx) (state_of l.initial.log) (state_of l.log);
      moves : g.D.Disk.tells → Moves (names_below l.from l.node) (names_below l.w l.node) (state_of l.initial.log) start.image (state_of l.log) now.image;
      quiet : IsQuiet start now;
      counted : start.faults ≤ now.faults;
    }
