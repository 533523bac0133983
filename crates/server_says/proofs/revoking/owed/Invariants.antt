use Rattle.std.proofs.Common.{◌≡◌, ◌++◌, drop}
use Rattle.std.specs.List.{flat_map}
use Rattle.server_says.specs.Revoking.{owed_by}
use Rattle.server_says.proofs.revoking.owed.Given as goal

abbrev pub invariant-loop-host : goal.invariant-loop-host
invariant-loop-host l = l.tokens ++ flat_map (owed_by l.tables.tokens) (drop l.host-index l.host-items)
    ≡ flat_map (owed_by l.tables.tokens) l.host-items
