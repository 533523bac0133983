use Rattle.std.proofs.Common.{◌≡◌, ◌++◌, drop}
use Rattle.server_tables.specs.Claims.{applied_of}
use Rattle.server_tables.proofs.recovering.Recovering.applied.Given as goal

abbrev pub invariant-loop-out : goal.invariant-loop-out
invariant-loop-out l =
    l.applied ++ applied_of l.self.taken l.host (drop l.out-index l.out-items)
    ≡ applied_of l.self.taken l.host l.out-items
