use Rattle.std.proofs.Common.{◌≡◌, drop}
use Rattle.server_tables.specs.Counting.{CanAskAll}
use Rattle.server_tables.specs.Updates.{all_enqueued}
use Rattle.server_tables.proofs.wants.enqueue_all.Given as goal

abbrev pub invariant-loop-pending : goal.invariant-loop-pending
invariant-loop-pending l =
    CanAskAll l.tokens.asked l.tokens.latest (drop l.pending-index l.pendings)
    × (all_enqueued l.tokens (drop l.pending-index l.pendings) ≡ all_enqueued l.initial.tokens l.pendings)
