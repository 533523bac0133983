-- Nodes that are dealt out to workers.
use Rattle.std.specs.Prelude.{Bool, List, [], false, if◌then◌else◌, length, nat_lt, slice_index_or, true, ℕ, ◌%◌, ◌+◌}
use Rattle.std.specs.Prelude.{◌++◌, ◌-◌, ◌<◌, ◌==◌, ◌∷◌, ◌≡◌}

-- the worker, of so many, to whom the node at a place belongs: the hosts come first, and are dealt out in turn, and so
-- are the servers behind them
abbrev pub worker_at : ℕ → ℕ → ℕ → ℕ
worker_at hosts workers place = (if nat_lt place hosts then place else place - hosts) % workers

-- those of a worker, of these that begin at a place, the first at the end
abbrev pub stack : {A : Type 0} → (ℕ → ℕ) → ℕ → ℕ → List A → List A
stack of worker place [] = []
stack of worker place (x ∷ xs) =
    if of place == worker then stack of worker (place + 1) xs ++ x ∷ [] else stack of worker (place + 1) xs

-- these, which begin at a place, have been dealt out to as many workers as there are bundles
abbrev pub AreDealt : {A : Type 0} → (ℕ → ℕ) → ℕ → List A → List (List A) → Type 0
AreDealt of place xs bundles =
    (worker : ℕ) (d : _) → worker < length bundles → slice_index_or bundles worker d ≡ stack of worker place xs

-- whether the last of a list has gone to the end of another, from before to after
abbrev pub HasMoved : {A : Type 0} → List A → List A → List A → List A → Bool → Type 0
HasMoved from from_new to to_new true = (x : _) × (from ≡ from_new ++ x ∷ []) × (to_new ≡ to ++ x ∷ [])
HasMoved from from_new to to_new false = (from_new ≡ from) × (to_new ≡ to)
