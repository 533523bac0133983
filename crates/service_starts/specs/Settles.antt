-- What stores tell once they have settled what they had to.
use Rattle.std.specs.Prelude.{◌≡◌, ℕ, ◌+◌, ◌==◌, List, map, filter, slice_get, Some}
use Rattle.service_starts.specs.Fitting.{settlings_of}
use Rattle.service_starts.specs.Settled.{told_after}
use Rattle.service_starts.specs.declared.fitting.Settling.{Settling}
use Rattle.service_starts.specs.declared.told.Told.{Told}
use Rattle.service_starts.specs.Starts.{IsToldOf}
use Rattle.store_acts.specs.Acts.{state_after}
use Rattle.store_acts.specs.declared.act.Act.{Act}
use Rattle.store_acts.specs.declared.act.Act.TheVariants.{Settle}
use Rattle.store_state.specs.declared.state.StoreState.{StoreState}

-- the acts of a server, counted from 1, by which it settles what it has to
abbrev pub acts_at : ℕ → List Settling → List Act
acts_at server settlings =
    map (λ settling. Settle settling.fileset) (filter (λ settling. settling.server.0 == server) settlings)

-- A store that has done them tells what is told once the moves are settled, and has a record that a disk can have.
abbrev pub StoresSettle : Type 0
StoresSettle = (all : List Told) (place : ℕ) (told : Told) (state : StoreState) → slice_get all place ≡ Some told
    → IsToldOf (place + 1) state told
    → IsToldOf (place + 1) (state_after state (acts_at (place + 1) (settlings_of all))) (told_after all told)
