use Rattle.std.proofs.Common.{◌≡◌, fold, take}
use Rattle.host_asks.specs.Claiming.{helloing}
use Rattle.host_asks.proofs.repeating.repeat_hellos.Given as goal

abbrev pub invariant-loop-site : goal.invariant-loop-site
invariant-loop-site l =
    l.draft ≡ fold (helloing l.tables) l.initial.draft (take l.site-index l.site-items)
