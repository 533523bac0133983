use Rattle.std.proofs.Common.{◌≡◌, ◌++◌, drop}
use Rattle.tree_answers.specs.Histories.{after_history, lost_in}
use Rattle.script_output.proofs.report.follow.Given as goal

-- the losses so far, and those of the entries that are left; and the last tree
abbrev pub invariant-loop-entry : goal.invariant-loop-entry
invariant-loop-entry l = record {
  losses : l.losses ++ lost_in l.tree (drop l.entry-index l.history) ≡ lost_in l.fn.tree l.history;
  tree : after_history l.tree (drop l.entry-index l.history) ≡ after_history l.fn.tree l.history;
}
