use Rattle.std.proofs.Common.{◌≡◌, take}
use Rattle.host_leaves.specs.Giving.{ids_of}
use Rattle.host_leaves.proofs.giving.ids_of.Given as goal

abbrev pub invariant-loop-token : goal.invariant-loop-token
invariant-loop-token l = l.ids ≡ ids_of (take l.token-index l.tokens)
