use Rattle.std.proofs.Common.{take}
use Rattle.host_cache.specs.Holding.{AreAlikeFor}
use Rattle.host_cache.proofs.held.are_alike_for.Given as goal

-- those so far are alike
abbrev pub invariant-loop-token : goal.invariant-loop-token
invariant-loop-token l = AreAlikeFor l.one l.other (take l.token-index l.tokens)
