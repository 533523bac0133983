use Rattle.std.proofs.Common.{◌≡◌, ◌-◌, ◌+◌, ◌++◌}
use Rattle.std.specs.List.{flat_map, range_with_len}
use Rattle.base_types.specs.declared.limits.TheConstants.{SERVERS_MAX}
use Rattle.script_output.specs.Reports.{all_servers, lost_by}
use Rattle.script_output.proofs.report.push_host_losses.Given as goal

-- the losses so far, and those at the servers that are left
abbrev pub invariant-loop-server : goal.invariant-loop-server
invariant-loop-server l =
    l.ordered ++ flat_map (lost_by l.losses l.host) (range_with_len l.server (SERVERS_MAX + 1 - l.server)) ≡ l.fn.ordered ++ flat_map (lost_by l.losses l.host) all_servers
