use Rattle.std.specs.Prelude.{ℕ, zero, suc, List, [], ◌∷◌}

-- a list with one element changed, where there is one at this place
abbrev pub changed_at : {X : Type 0} → List X → ℕ → (X → X) → List X
changed_at [] place change = []
changed_at (x ∷ xs) zero change = change x ∷ xs
changed_at (x ∷ xs) (suc place) change = x ∷ changed_at xs place change
