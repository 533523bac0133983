use Rattle.std.proofs.Common.{◌≡◌, ◌-◌, ◌++◌, drop, length}
use Rattle.std.specs.List.{flat_map}
use Rattle.script_output.specs.Dump.{run_line, runs_after, runs_of}
use Rattle.script_output.proofs.dump.push_runs.Given as goal

-- the runs so far, and those that are left
abbrev pub invariant-loop-at : goal.invariant-loop-at
invariant-loop-at l = l.out ++ flat_map run_line (runs_after 0 l.at (drop l.at l.bytes)) ≡ l.fn.out ++ flat_map run_line (runs_of l.bytes)

abbrev pub decreases-loop-at : goal.decreases-loop-at
decreases-loop-at l = length l.bytes - l.at
