-- A small run of a script.
use Rattle.std.specs.Prelude.{[], ◌∷◌}
use Rattle.run_rules.specs.declared.journal.Journal.{Journal}
use Rattle.run_tokens.specs.JournalWorked.{start}
use Rattle.run_tokens.specs.Worked.{enters, fetches, from_cache, grants, greets, takes, tells, welcomes}
use Rattle.tree_objects.specs.Spans.{whole}

-- a host asks twice for the status of the root of a fileset: the second time it answers from its cache
abbrev pub worked_journal : Journal
worked_journal = record {
  start = start ∷ [];
  epochs = 1 ∷ [];
  steps = greets ∷ welcomes ∷ enters ∷ tells ∷ fetches whole ∷ grants whole ∷ takes whole ∷ from_cache ∷ [];
}
