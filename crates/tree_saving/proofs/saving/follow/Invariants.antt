use Rattle.std.proofs.Common.{◌≡◌, drop}
use Rattle.tree_answers.specs.Histories.{after_history}
use Rattle.tree_saving.proofs.saving.follow.Given as goal

-- the rest of the entries leads to where all lead
abbrev pub invariant-loop-entry : goal.invariant-loop-entry
invariant-loop-entry l = after_history l.tree (drop l.entry-index l.entries) ≡ after_history l.fn.tree l.entries
