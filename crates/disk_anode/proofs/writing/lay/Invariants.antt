use Rattle.std.proofs.Common.{◌≡◌, ◌≤◌, ◌+◌, length}
use Rattle.disk_log.specs.Log.{disk_of, state_of, slot_of, IsSoundLog}
use Rattle.disk_anode.specs.Node.{names, SameFacts}
use Rattle.disk_anode.specs.Room.{are_counts, free_blocks, blocks_written, PutsPages}
use Rattle.disk_anode.specs.Changes.{WroteLoose}
use Rattle.disk_anode.proofs.Laid.{LaidBelow}
use Rattle.disk_anode.proofs.writing.lay.Given as goal

abbrev pub invariant-loop-i : goal.invariant-loop-i
invariant-loop-i g l =
    let start = g.D.Disk.view (disk_of l.initial.log) in
    let now = g.D.Disk.view (disk_of l.log) in
    record {
      sound : IsSoundLog g.D.Disk.tells g.D.Disk.view l.log;
      tx : l.tx ≡ l.initial.tx;
      puts : PutsPages are_counts (slot_of l.initial.tx) (state_of l.initial.log) (state_of l.log);
      facts : SameFacts l.initial.node l.node;
      laid : g.D.Disk.tells → LaidBelow l.i l.kept l.from l.piece l.initial.node (state_of l.initial.log) start.image l.node (state_of l.log) now.image;
      room : g.D.Disk.tells → free_blocks (state_of l.initial.log) start.image ≤ free_blocks (state_of l.log) now.image + blocks_written l.kept l.from (length l.piece) l.i;
      wrote : g.D.Disk.tells → WroteLoose (names l.initial.node) (state_of l.initial.log) start now;
      counted : start.faults ≤ now.faults;
    }
