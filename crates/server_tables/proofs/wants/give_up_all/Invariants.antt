use Rattle.std.proofs.Common.{◌≡◌, drop}
use Rattle.server_tables.specs.Updates.{without_its}
use Rattle.server_tables.proofs.wants.give_up_all.Given as goal

abbrev pub invariant-loop-pending : goal.invariant-loop-pending
invariant-loop-pending l =
    without_its l.tokens l.host (drop l.pending-index l.pendings) ≡ without_its l.initial.tokens l.host l.pendings
