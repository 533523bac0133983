use Rattle.std.proofs.Common.{◌≡◌, fold, take}
use Rattle.host_asks.specs.Claiming.{parting_again}
use Rattle.host_asks.proofs.repeating.repeat_byes.Given as goal

abbrev pub invariant-loop-site : goal.invariant-loop-site
invariant-loop-site l =
    l.draft ≡ fold (parting_again l.tables) l.initial.draft (take l.site-index l.site-items)
