use Rattle.std.proofs.Common.{◌≡◌}
use Rattle.host_tables.specs.Updates.{fresh_sites}
use Rattle.host_tables.proofs.sites.new_sites.Given as goal

abbrev pub invariant-loop-index : goal.invariant-loop-index
invariant-loop-index l = l.sites ≡ fresh_sites l.index
