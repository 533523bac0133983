use Rattle.std.proofs.Common.{◌≡◌, [], fold, take}
use Rattle.host_asks.specs.Claiming.{with_its_fileset}
use Rattle.host_asks.proofs.claiming.filesets_of.Given as goal

abbrev pub invariant-loop-token : goal.invariant-loop-token
invariant-loop-token l =
    l.filesets ≡ fold with_its_fileset [] (take l.token-index l.tokens)
