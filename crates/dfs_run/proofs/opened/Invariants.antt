use Rattle.std.proofs.Common.{◌≡◌, length}
use Rattle.dfs_run.proofs.opened.Given as goal

abbrev pub invariant-loop-k : goal.invariant-loop-k
invariant-loop-k g l = length l.disks.items ≡ l.k
