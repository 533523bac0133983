use Rattle.std.proofs.Common.{◌≡◌, ◌++◌, None, drop}
use Rattle.tree_answers.specs.Histories.{IsHistory}
use Rattle.tree_answers.specs.WellFormed.{IsWellFormed}
use Rattle.store_laws.specs.Acts.{acts_of}
use Rattle.service_stores.proofs.acts.acts_of.Given as goal

-- the acts so far, and those of the rest from there on
abbrev pub invariant-loop-entry : goal.invariant-loop-entry
invariant-loop-entry l = record {
  acts : acts_of l.server l.fn.start None l.history
      ≡ l.acts ++ acts_of l.server l.tree l.number (drop l.entry-index l.history);
  formed : IsWellFormed l.tree;
  legal : IsHistory l.tree (drop l.entry-index l.history);
}
