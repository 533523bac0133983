use Rattle.std.proofs.Common.{◌≡◌, ◌-◌, ◌+◌, ◌++◌}
use Rattle.std.specs.List.{flat_map, range_with_len}
use Rattle.base_types.specs.declared.limits.TheConstants.{HOSTS_MAX}
use Rattle.run_rules.specs.Runs.{history_of}
use Rattle.script_output.specs.Reports.{answers_to, answers_of}
use Rattle.run_output.proofs.told.answers_of.Given as goal

-- the replies so far, and those of the hosts that are left
abbrev pub invariant-loop-host : goal.invariant-loop-host
invariant-loop-host l =
    l.answers ++ flat_map (answers_to l.script (history_of l.steps)) (range_with_len l.host (HOSTS_MAX + 1 - l.host))
    ≡ answers_of l.script (history_of l.steps)
