-- A journal is told from its text.
use Rattle.std.specs.Prelude.{◌≡◌}
use Rattle.run_rules.specs.declared.journal.Journal.{Journal}
use Rattle.run_journal.specs.Text.{journal_text}
use Rattle.run_reading.specs.Journals.{TypedJournal}

-- two journals of programs with one text are one
abbrev pub OneTextOneJournal : Type 0
OneTextOneJournal =
    (a b : Journal) → TypedJournal a → TypedJournal b → journal_text a ≡ journal_text b → a ≡ b
