use Rattle.std.proofs.Common.{◌≡◌, ◌≤◌, ◌++◌, ◌+◌, length}
use Rattle.base_io.proofs.whole.read_all.Given as goal

abbrev pub invariant-loop-room : goal.invariant-loop-room
invariant-loop-room g l = record {
  split : g.R.Source.tells → l.bytes.items ++ g.R.Source.left l.source ≡ g.R.Source.left l.initial.source;
  size : length l.bytes.items + l.room ≡ l.most;
  counted : g.R.Source.faults l.initial.source ≤ g.R.Source.faults l.source;
}

abbrev pub decreases-loop-room : goal.decreases-loop-room
decreases-loop-room g l = l.room
