use Rattle.std.proofs.Common.{◌≡◌, drop, fold}
use Rattle.host_manager.specs.Closing.{downing}
use Rattle.host_manager.proofs.closing.say_down.Given as goal

abbrev pub invariant-loop-site : goal.invariant-loop-site
invariant-loop-site l =
    fold (downing l.tables) l.draft (drop l.site-index l.site-items)
    ≡ fold (downing l.tables) l.initial.draft l.site-items
