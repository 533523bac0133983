-- The history and the tree after some steps, the newest of which stands first.
use Rattle.std.specs.Prelude.{List, [], ◌++◌, ◌∷◌}
use Rattle.tree_answers.specs.Histories.{IsHistory, after_history}
use Rattle.tree_answers.specs.declared.tree.Tree.{Tree}
use Rattle.tree_calls.specs.declared.entry.Entry.{Entry}
use Rattle.run_rules.specs.Runs.{entries_of}
use Rattle.run_rules.specs.declared.step.Step.{Step}

-- the history so far
abbrev pub history : List Step → List Entry
history [] = []
history (step ∷ past) = history past ++ entries_of step

-- the tree after these steps
abbrev pub tree_at : Tree → List Step → Tree
tree_at start past = after_history start (history past)

-- the history so far is legal
abbrev pub IsLegalPast : Tree → List Step → Type 0
IsLegalPast start past = IsHistory start (history past)
