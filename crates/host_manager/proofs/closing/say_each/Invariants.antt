use Rattle.std.proofs.Common.{◌≡◌, drop, fold}
use Rattle.host_manager.specs.Closing.{parting}
use Rattle.host_manager.proofs.closing.say_each.Given as goal

abbrev pub invariant-loop-site : goal.invariant-loop-site
invariant-loop-site l =
    fold (parting l.tables) l.draft (drop l.site-index l.site-items)
    ≡ fold (parting l.tables) l.initial.draft l.site-items
