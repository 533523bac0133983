use Rattle.std.proofs.Common.{◌≡◌, drop, fold}
use Rattle.host_manager.specs.Taking.{sending_to}
use Rattle.host_manager.proofs.taking.send_all_given.Given as goal

abbrev pub invariant-loop-fileset : goal.invariant-loop-fileset
invariant-loop-fileset l =
    fold (sending_to l.tables l.server) l.draft (drop l.fileset-index l.fileset-items)
    ≡ fold (sending_to l.tables l.server) l.initial.draft l.fileset-items
