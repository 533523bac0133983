use Rattle.std.proofs.Common.{◌≡◌, ◌-◌, ◌+◌, ◌++◌}
use Rattle.std.specs.List.{flat_map, range_with_len}
use Rattle.base_types.specs.declared.limits.TheConstants.{HOSTS_MAX}
use Rattle.script_output.specs.Reports.{all_servers, lost_by, by_host}
use Rattle.script_output.proofs.report.by_host.Given as goal

-- the losses so far, and those of the hosts that are left
abbrev pub invariant-loop-host : goal.invariant-loop-host
invariant-loop-host l =
    l.ordered ++ flat_map (λ host. flat_map (lost_by l.losses host) all_servers) (range_with_len l.host (HOSTS_MAX + 1 - l.host)) ≡ by_host l.losses
