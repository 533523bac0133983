use Rattle.std.proofs.Common.{◌≡◌, filter, take}
use Rattle.host_asks.specs.Claiming.{is_before}
use Rattle.host_asks.proofs.claiming.claimed_of.Given as goal

abbrev pub invariant-loop-token : goal.invariant-loop-token
invariant-loop-token l =
    l.tokens ≡ filter (is_before l.server l.epoch) (take l.token-index l.owned)
