-- What a crash may leave, call by call.
use Rattle.std.specs.Prelude.{◌≡◌, ◌≤◌, ◌⊎◌, ℕ, List}
use Rattle.base_types.specs.View.{View}

-- a crash leaves what a read gives and nothing else
abbrev pub IsSettled : View → Type 0
IsSettled view = (c : List ℕ) → view.may_leave c → c ≡ view.image

-- an outcome of before, after a step
abbrev pub After : (List ℕ → List ℕ → Type 0) → (List ℕ → Type 0) → List ℕ → Type 0
After step before c = (d : List ℕ) × before d × step d c

-- A call, or a run of calls, as time goes on: a crash now leaves what could be left before, after a step, and a crash
-- since an earlier moment leaves what it could have left before the call, or that.
pub record ChangesBy (step : List ℕ → List ℕ → Type 0) (old new : View) : Type 0 where
  pub later : old.moment ≤ new.moment
  pub now : (c : List ℕ) → new.may_leave c → After step old.may_leave c
  pub since : (t : ℕ) (c : List ℕ)
      → t ≤ old.moment → new.left_since t c → old.left_since t c ⊎ After step old.may_leave c
  pub kept : (t : ℕ) (c : List ℕ) → t ≤ old.moment → old.left_since t c → new.left_since t c

-- A call, or a run of calls, that changes no byte: a crash leaves nothing that it couldn't have left before.
pub record IsQuiet (old new : View) : Type 0 where
  pub image : new.image ≡ old.image
  pub later : old.moment ≤ new.moment
  pub now : (c : List ℕ) → new.may_leave c → old.may_leave c
  pub since : (t : ℕ) (c : List ℕ) → t ≤ old.moment → new.left_since t c → old.left_since t c
  pub kept : (t : ℕ) (c : List ℕ) → t ≤ old.moment → old.left_since t c → new.left_since t c
