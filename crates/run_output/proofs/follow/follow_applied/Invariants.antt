use Rattle.std.proofs.Common.{◌≡◌, ◌++◌, flat_map, drop}
use Rattle.tree_answers.specs.Histories.{after_history, lost_in}
use Rattle.run_rules.specs.Runs.{entries_in}
use Rattle.run_output.proofs.follow.follow_applied.Given as goal

-- the losses so far, and those of what is left; and the last tree
abbrev pub invariant-loop-one : goal.invariant-loop-one
invariant-loop-one l = record {
  losses : l.losses ++ lost_in l.tree (flat_map (entries_in l.server) (drop l.one-index l.one-items))
      ≡ l.fn.losses ++ lost_in l.fn.tree (flat_map (entries_in l.server) l.applied);
  tree : after_history l.tree (flat_map (entries_in l.server) (drop l.one-index l.one-items))
      ≡ after_history l.fn.tree (flat_map (entries_in l.server) l.applied);
}
