-- A step in the making goes on, one thing after the other.
use Rattle.std.specs.Prelude.{◌≡◌, List, [], ◌∷◌, Result, Ok, Err}
use Rattle.run_rules.specs.declared.step.Step.{Step}

-- the step that was made, if it could be
abbrev pub step_if : {T E : Type 0} → Result T E → Step → Result Step E
step_if (Ok value) step = Ok step
step_if (Err error) step = Err error

-- it goes from one to the next of these, up to the last
abbrev pub IsChain : {A : Type 0} → (A → A → Type 0) → A → List A → A → Type 0
IsChain Goes a [] z = a ≡ z
IsChain Goes a (b ∷ more) z = Goes a b × IsChain Goes b more z

abbrev pub GoesTo : {A : Type 0} → (A → A → Type 0) → A → A → Type 0
GoesTo {A} Goes a z = (more : List A) × IsChain Goes a more z
