use Rattle.std.proofs.Common.{◌≡◌, map, take}
use Rattle.host_asks.specs.Claiming.{outstanding_at}
use Rattle.host_asks.proofs.claiming.numbers_of.Given as goal

abbrev pub invariant-loop-fileset : goal.invariant-loop-fileset
invariant-loop-fileset l =
    l.numbers ≡ map (outstanding_at l.tables) (take l.fileset-index l.filesets)
