use Rattle.std.proofs.Common.{◌≡◌, drop}
use Rattle.tree_answers.specs.Histories.{after_history}
use Rattle.service_stores.proofs.keeping.follow_all.Given as goal

-- the rest of the entries leads to where all lead
abbrev pub invariant-loop-entry : goal.invariant-loop-entry
invariant-loop-entry l =
    after_history l.tree (drop l.entry-index l.history) ≡ after_history l.fn.tree l.history
