use Rattle.std.proofs.Common.{◌≡◌, ◌++◌, flat_map, drop}
use Rattle.run_rules.specs.Runs.{entries_in}
use Rattle.run_rules.proofs.history.push_applied.Given as goal

-- the entries so far, and those of what is left
abbrev pub invariant-loop-one : goal.invariant-loop-one
invariant-loop-one l =
    l.history ++ flat_map (entries_in l.server) (drop l.one-index l.one-items)
    ≡ l.fn.history ++ flat_map (entries_in l.server) l.applied
