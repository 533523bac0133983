use Rattle.std.proofs.Common.{◌≡◌, ◌≤◌, ◌<◌, ℕ}
use Rattle.disk_log.specs.Log.{disk_of, state_of, slot_of, IsSoundLog}
use Rattle.disk_anode.specs.Node.{pointer_of, names, SameFacts}
use Rattle.disk_anode.specs.Room.{are_counts, free_blocks, PutsPages}
use Rattle.disk_anode.specs.Changes.{WroteLoose, Moves}
use Rattle.disk_anode.proofs.making.clear_all.Given as goal

abbrev pub invariant-loop-w : goal.invariant-loop-w
invariant-loop-w g l =
    let start = g.D.Disk.view (disk_of l.initial.log) in
    let now = g.D.Disk.view (disk_of l.log) in
    record {
      sound : IsSoundLog g.D.Disk.tells g.D.Disk.view l.log;
      tx : l.tx ≡ l.initial.tx;
      puts : PutsPages are_counts (slot_of l.initial.tx) (state_of l.initial.log) (state_of l.log);
      facts : SameFacts l.initial.node l.node;
      none : (v : ℕ) → v < l.w → pointer_of l.node v ≡ 0;
      moves : g.D.Disk.tells → Moves (names l.initial.node) (names l.node) (state_of l.initial.log) start.image (state_of l.log) now.image;
      room : g.D.Disk.tells → free_blocks (state_of l.initial.log) start.image ≤ free_blocks (state_of l.log) now.image;
      wrote : g.D.Disk.tells → WroteLoose (names l.initial.node) (state_of l.initial.log) start now;
      counted : start.faults ≤ now.faults;
    }
