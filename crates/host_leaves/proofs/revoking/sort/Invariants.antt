use Rattle.std.proofs.Common.{◌≡◌, take}
use Rattle.host_leaves.specs.Revoking.{sorted_by}
use Rattle.host_leaves.proofs.revoking.sort.Given as goal

abbrev pub invariant-loop-index : goal.invariant-loop-index
invariant-loop-index l = l.sorted ≡ sorted_by l.tables (take l.index l.ids)
