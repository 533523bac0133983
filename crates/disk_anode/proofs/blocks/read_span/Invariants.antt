use Rattle.std.proofs.Common.{◌≡◌, ◌≤◌, ◌<◌, ◌+◌, ◌*◌, ℕ, get_or, length}
use Rattle.base_types.specs.Crash.{IsQuiet}
use Rattle.disk_log.specs.Log.{disk_of, state_of, IsSoundLog}
use Rattle.disk_anode.specs.Anode.{bytes_of, content_at}
use Rattle.disk_anode.proofs.blocks.read_span.Given as goal

abbrev pub invariant-loop-i : goal.invariant-loop-i
invariant-loop-i g l =
    let start = g.D.Disk.view (disk_of l.initial.log) in
    let now = g.D.Disk.view (disk_of l.log) in
    record {
      sound : IsSoundLog g.D.Disk.tells g.D.Disk.view l.log;
      state : state_of l.log ≡ state_of l.initial.log;
      size : length l.out ≡ length l.initial.out;
      first : l.from ≤ 1024 * l.i + 1023;
      bytes : g.D.Disk.tells → (k : ℕ) → k < length l.out → l.from + k < 1024 * l.i → get_or l.out k 0 ≡ content_at start.image l.node (bytes_of l.node) (l.from + k);
      quiet : IsQuiet start now;
      counted : start.faults ≤ now.faults;
    }
