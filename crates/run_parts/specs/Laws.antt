-- A step's doings are those after which it is done.
use Rattle.run_rules.specs.Doings.{Doing, after_step}
use Rattle.run_rules.specs.Past.{appended}
use Rattle.std.specs.Prelude.{List, ◌≡◌}
use Rattle.run_parts.specs.Doings.{doings}
use Rattle.run_rules.specs.declared.step.Step.{Step}

abbrev pub StepsAreTheirDoings : Type 0
StepsAreTheirDoings = (s : Step) (past : List Doing) → appended (doings s past) past ≡ after_step s past
