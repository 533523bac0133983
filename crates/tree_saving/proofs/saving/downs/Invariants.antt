use Rattle.std.proofs.Common.{◌≡◌, ◌+◌, ◌-◌, ◌++◌}
use Rattle.tree_saving.specs.Saving.{downs_from}
use Rattle.tree_saving.proofs.saving.downs.Given as goal

-- the entries so far, and those of the servers that are left
abbrev pub invariant-loop-server : goal.invariant-loop-server
invariant-loop-server l = l.entries ++ downs_from l.host (l.server + 1) (l.servers - l.server) ≡ downs_from l.host 1 l.servers
