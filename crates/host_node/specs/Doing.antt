-- What a line makes a host do.
use Rattle.std.specs.Prelude.{ℕ}
use Rattle.host_manager.specs.Due.{IsOwn, LineDue}
use Rattle.host_manager.specs.Running.{LineRight, StopRight}
use Rattle.host_tables.specs.declared.tables.Tables.{Tables}
use Rattle.run_rules.specs.declared.step.Step.{Step}
use Rattle.script_lines.specs.declared.script.Deed.{Deed}
use Rattle.script_lines.specs.declared.script.Deed.TheVariants.{Stop}

-- the step of a line with this deed is right: behind a stop nothing is said of the tables
abbrev pub DeedRight : Tables → Tables → ℕ → Deed → Step → Type 0
DeedRight old new number Stop s = StopRight old number s
DeedRight old new number deed s = LineRight old new number deed s

pub record DoesLine (old new : Tables) (number : ℕ) (deed : Deed) (s : Step) : Type 0 where
  pub right : DeedRight old new number deed s
  pub own : IsOwn old s
  pub due : LineDue old number deed s
