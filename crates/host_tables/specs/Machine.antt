-- A step of a host's machine, over the steps that its tables stand for.
use Rattle.host_tables.specs.Stands.{IsAtRest, Stands}
use Rattle.host_tables.specs.declared.sites.Site.{Site}
use Rattle.host_tables.specs.declared.tables.Tables.{Tables}
use Rattle.run_rules.specs.HostMay.{HostMay}
use Rattle.run_rules.specs.Past.{In}
use Rattle.run_rules.specs.declared.step.Step.{Step}
use Rattle.script_lines.specs.declared.script.Script.{Script}
use Rattle.std.specs.Prelude.{List, true, ◌∷◌, ◌≡◌}

-- the tables stand for the steps, and the host is at rest
pub record Rests (script : Script) (m : Tables) (past : List Step) : Type 0 where
  pub stands : Stands script m past
  pub rest : IsAtRest m past

-- a step does what it may, and the machine stands for the steps with it
pub record StepRight (script : Script) (old new : Tables) (past : List Step) (s : Step) : Type 0 where
  pub may : HostMay script old.host past s
  pub rests : Rests script new (s ∷ past)

-- the host is done: it has said Bye to each server that it greeted, and has theirs
abbrev pub IsParted : List Site → Type 0
IsParted sites = (site : Site) → In site sites → site.greeted ≡ true → site.has_bye ≡ true
