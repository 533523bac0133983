use Rattle.std.proofs.Common.{◌≡◌, ◌++◌, flat_map, drop}
use Rattle.tree_answers.specs.Histories.{after_history, lost_in}
use Rattle.run_rules.specs.Runs.{entries_of, history_of}
use Rattle.run_output.proofs.follow.follow.Given as goal

-- the losses so far, and those of the steps that are left; and the last tree
abbrev pub invariant-loop-step : goal.invariant-loop-step
invariant-loop-step l = record {
  losses : l.losses ++ lost_in l.tree (flat_map entries_of (drop l.step-index l.steps)) ≡ l.fn.losses ++ lost_in l.fn.tree (history_of l.steps);
  tree : after_history l.tree (flat_map entries_of (drop l.step-index l.steps)) ≡ after_history l.fn.tree (history_of l.steps);
}
