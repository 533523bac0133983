use Rattle.std.proofs.Common.{◌≡◌, fold, take}
use Rattle.host_asks.specs.Claiming.{claiming_again}
use Rattle.host_asks.proofs.repeating.repeat_claims.Given as goal

abbrev pub invariant-loop-site : goal.invariant-loop-site
invariant-loop-site l =
    l.draft ≡ fold (claiming_again l.tables) l.initial.draft (take l.site-index l.site-items)
