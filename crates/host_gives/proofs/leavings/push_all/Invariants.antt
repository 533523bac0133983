use Rattle.std.proofs.Common.{◌≡◌, ◌++◌, map, take}
use Rattle.host_gives.specs.Leavings.{leaving_at}
use Rattle.host_gives.proofs.leavings.push_all.Given as goal

abbrev pub invariant-loop-token : goal.invariant-loop-token
invariant-loop-token l = l.all ≡ l.initial.all ++ map (leaving_at l.key) (take l.token-index l.tokens)
