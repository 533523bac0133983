use Rattle.std.proofs.Common.{drop}
use Rattle.run_rules.specs.Past.{In}
use Rattle.server_tables.proofs.recovering.Recovering.is_claimed.Given as goal

-- the claim isn't one of those that were looked at
abbrev pub invariant-loop-claimed : goal.invariant-loop-claimed
invariant-loop-claimed l =
    In (record { host = l.host; claim = l.claim }) l.claimed-items
    → In (record { host = l.host; claim = l.claim }) (drop l.claimed-index l.claimed-items)
