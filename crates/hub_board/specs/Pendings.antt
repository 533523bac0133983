-- What contracts see of steps that are handed in at the next turn.
use Rattle.std.specs.Prelude.{List, ℕ}
use Rattle.run_rules.specs.declared.step.Step.{Step}

-- the steps, and how many more there is room for
pub record Waiting : Type 0 where
  pub steps : List Step
  pub spare : ℕ
