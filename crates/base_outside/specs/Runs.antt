-- What a crash may leave of a run of calls.
use Rattle.std.specs.Prelude.{◌≤◌, ◌⊎◌, ℕ, List}
use Rattle.base_types.specs.View.{View}

-- A crash at any moment of a run of calls leaves what a crash before the run might have left, or what has P.
pub record LeavesOnly (P : List ℕ → Type 0) (old new : View) : Type 0 where
  pub later : old.moment ≤ new.moment
  pub each : (t : ℕ) (c : List ℕ) → t ≤ old.moment → new.left_since t c → old.left_since t c ⊎ P c
